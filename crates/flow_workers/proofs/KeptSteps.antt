-- Steps of a search, as they are kept.
use Rattle.std.proofs.Common.{◌≡◌, ◌≤◌, ◌⊎◌, inl, inr, ℕ, List, [], ◌∷◌, length, map, replicate, Some, None}
use Rattle.std.proofs.Common.{refl, ap, sym, ◌∙◌, subst, append-nil, arith}
use Rattle.std.proofs.lemmas.Bool.{false≢true}
use Rattle.std.proofs.lemmas.List.{length-map}
use Rattle.std.specs.Global.{Vec}
use Rattle.flow_directions.specs.Search.{Continues, directions_of, first_below, parts_visits, visits}
use Rattle.flow_directions.specs.declared.found.Part.{Part}
use Rattle.flow_workers.specs.declared.piece.Piece.TheVariants.{Done, Reached}
use Rattle.flow_workers.specs.internal.Pieces.{Reading}
use Rattle.flow_workers.specs.internal.Steps.{IsStep}
use Rattle.flow_workers.proofs.PieceSteps.{reached-met, rest-met}

-- of so many directions, of which nothing is kept but that they are there
pub so-many : (text : List ℕ) (count : ℕ) → count ≡ length text →
    replicate {A = ℕ} count 0 ≡ map (λ sign. 0) text
so-many text count is = ap (λ n. replicate {A = ℕ} n 0) is ∙ each text
  where
    each : (xs : List ℕ) → replicate {A = ℕ} (length xs) 0 ≡ map (λ sign. 0) xs
    each [] = refl
    each (x ∷ xs) = ap (λ ys. 0 ∷ ys) (each xs)

module _ {K : Type 0} (reading : Reading K) (budget : ℕ) (first last : List ℕ) where
  -- where the search goes on with parts
  pub rest-step : (directions : K) (text : List ℕ) (left : Vec Part) →
      reading.text directions ≡ map reading.mark text →
      Continues (visits reading.shop reading.threshold first last) text
      (parts_visits reading.shop reading.threshold left.items) →
      length text ≤ budget → (length text ≡ budget) ⊎ (left.items ≡ []) →
      IsStep reading budget first last (record { piece = Done directions; left = left })
  rest-step directions text left are goes within on =
      let size : length (reading.text directions) ≡ length text = ap length are ∙ length-map text reading.mark in
      record {
        met = rest-met reading first last text directions left.items are goes;
        searched = tt;
        within = omega (arith, size, within);
        goes_on = elim on [ inl all ↦ inl (size ∙ all) | inr none ↦ inr none ];
        alone = λ reached. absurd (false≢true reached);
      }

  -- where no sequence is below the threshold
  pub proved-step : (directions : K) (left : Vec Part) → left.items ≡ [] →
      reading.text directions ≡ map reading.mark (directions_of reading.shop reading.threshold first last) →
      first_below reading.shop reading.threshold first last ≡ None →
      length (directions_of reading.shop reading.threshold first last) ≤ budget →
      IsStep reading budget first last (record { piece = Done directions; left = left })
  proved-step directions left none are not within =
      let text : List ℕ = directions_of reading.shop reading.threshold first last in
      rest-step directions text left are
      (subst (λ parts. Continues (visits reading.shop reading.threshold first last) text
      (parts_visits reading.shop reading.threshold parts)) (sym none) (sym (append-nil text), not))
      within (inr none)

  -- where a sequence was reached
  pub reached-step : (jobs : List ℕ) (directions : K) (left : Vec Part) → left.items ≡ [] →
      reading.text directions ≡ map reading.mark (directions_of reading.shop reading.threshold first last) →
      first_below reading.shop reading.threshold first last ≡ Some jobs →
      length (directions_of reading.shop reading.threshold first last) ≤ budget →
      IsStep reading budget first last (record { piece = Reached jobs directions; left = left })
  reached-step jobs directions left none are is within =
      let text : List ℕ = directions_of reading.shop reading.threshold first last in
      let size : length (reading.text directions) ≡ length text = ap length are ∙ length-map text reading.mark in
      record {
        met = reached-met reading first last jobs directions left.items are is;
        searched = tt;
        within = omega (arith, size, within);
        goes_on = inr none;
        alone = λ reached. none;
      }
