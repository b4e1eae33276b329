-- What was found, once the first piece says so.
use Rattle.std.proofs.Common.{◌≡◌, ℕ, ◌+◌, ◌<◌, ◌≤◌, List, [], ◌∷◌, ◌++◌, length, replicate, Some, None, ap, sym}
use Rattle.std.proofs.Common.{◌∙◌, arith, append-nil, length-append}
use Rattle.std.proofs.lemmas.List.{length-map, length-replicate, map-id}
use Rattle.std.specs.Global.{Vec}
use Rattle.flow_shop.specs.Sequences.{IsSequence}
use Rattle.flow_shop.specs.Paths.{span}
use Rattle.flow_shop.proofs.SequenceLemmas.{no-jobs}
use Rattle.flow_directions.specs.Search.{visits, first_below, directions_of, IsCounted, IsFound}
use Rattle.flow_directions.specs.declared.found.Part.TheVariants.{Node}
use Rattle.flow_directions.proofs.SearchReaches.{reached_is_below}
use Rattle.flow_parts.specs.Meanings.{behind}
use Rattle.flow_parts.proofs.Behind.{behind-nil}
use Rattle.flow_workers.specs.internal.Pieces.{Reading, kept_met, piece_met, pieces_met, reading_of}
use Rattle.flow_workers.specs.internal.Found.{IsEnded, ReachedWithin, counted_of, found_of}
use Rattle.flow_workers.specs.declared.piece.Piece.{Piece}
use Rattle.flow_workers.specs.declared.piece.Piece.TheVariants.{Left, Reached}
use Rattle.flow_workers.specs.declared.node.Sought.{Sought}
use Rattle.flow_workers.specs.declared.workers.Ended.{Ended}
use Rattle.flow_workers.specs.declared.workers.Ended.TheVariants.{Proved, Below, Over}

-- the node of two empty lists, before anything of it is searched
pub first-node : {K : Type 0} (reading : Reading K) (directions : K) (first last : Vec ℕ) (pieces : List (Piece K)) →
    reading.text directions ≡ [] → pieces ≡ Left (Node first last) ∷ [] → first.items ≡ [] → last.items ≡ [] →
    behind (reading.text directions, None) (pieces_met reading pieces)
    ≡ kept_met reading.mark (visits reading.shop reading.threshold [] [])
first-node reading directions first last pieces none are firsts lasts =
    ap (λ t. behind (t, None) (pieces_met reading pieces)) none ∙ ap (pieces_met reading) are
    ∙ behind-nil (piece_met reading (Left (Node first last)))
    ∙ ap (λ xs. kept_met reading.mark (visits reading.shop reading.threshold xs last.items)) firsts
    ∙ ap (λ xs. kept_met reading.mark (visits reading.shop reading.threshold [] xs)) lasts

-- directions and pieces that stand for the search of the node of two empty lists
module _ {K : Type 0} (reading : Reading K) (budget : ℕ) (directions : K) (pieces : List (Piece K))
    (stands : behind (reading.text directions, None) (pieces_met reading pieces)
    ≡ kept_met reading.mark (visits reading.shop reading.threshold [] [])) where
  -- there are as many directions as those of the pieces
  counted : length (directions_of reading.shop reading.threshold [] [])
      ≡ length (reading.text directions) + length (pieces_met reading pieces).0
  counted =
      sym (length-map (directions_of reading.shop reading.threshold [] []) reading.mark)
      ∙ sym (ap (λ m. length m.0) stands) ∙ length-append (reading.text directions) (pieces_met reading pieces).0

  -- where there are more directions than the budget
  pub ended-over : budget < length (reading.text directions) → IsEnded reading budget Over
  ended-over over = omega (arith, over, counted)

  -- where there are more than a number that is greater than the budget
  pub ended-many : (most : ℕ) → budget < most →
      most ≤ length (behind (reading.text directions, None) (pieces_met reading pieces)).0 →
      IsEnded reading budget Over
  ended-many most less many =
      omega (arith, less, many, counted, length-append (reading.text directions) (pieces_met reading pieces).0)

  -- where no piece is left
  pub none-left : pieces ≡ [] → length (reading.text directions) ≤ budget → IsEnded reading budget (Proved directions)
  none-left none within =
      let e = ap (λ xs. behind (reading.text directions, None) (pieces_met reading xs)) (sym none) ∙ stands in
      (sym (ap (λ m. m.1) e), sym (append-nil (reading.text directions)) ∙ ap (λ m. m.0) e, within)

  -- where the first piece has reached a sequence
  module _ (jobs : List ℕ) (more : K) (rest : List (Piece K)) (are : pieces ≡ Reached jobs more ∷ rest) where
    first-is : ◌≡◌ {A = List ℕ × _} (reading.text directions ++ reading.text more, Some jobs)
        (kept_met reading.mark (visits reading.shop reading.threshold [] []))
    first-is = ap (λ xs. behind (reading.text directions, None) (pieces_met reading xs)) (sym are) ∙ stands

    reached-first : first_below reading.shop reading.threshold [] [] ≡ Some jobs
    reached-first = sym (ap (λ m. m.1) first-is)

    pub is-reached : IsSequence reading.shop.jobs jobs
    is-reached = (reached_is_below reading.shop reading.threshold [] [] jobs (no-jobs reading.shop.jobs)
        reached-first).0.2

    count-is : length (directions_of reading.shop reading.threshold [] [])
        ≡ length (reading.text directions) + length (reading.text more)
    count-is =
        sym (length-map (directions_of reading.shop reading.threshold [] []) reading.mark)
        ∙ sym (ap (λ m. length m.0) first-is) ∙ length-append (reading.text directions) (reading.text more)

    pub ended-reached : (count : ℕ) (ended : Ended K) →
        count ≡ length (reading.text directions) + length (reading.text more) →
        ReachedWithin reading.shop budget jobs count ended → IsEnded reading budget ended
    ended-reached count (Proved all) counted is = absurd is
    ended-reached count (Below sequence makespan before) counted is = (
      reached-first ∙ ap Some (sym is.0),
      is.1 ∙ ap (span reading.shop) (sym is.0),
      omega (arith, is.2, counted, count-is),
      omega (arith, is.2, is.3),
    )
    ended-reached count Over counted is = omega (arith, is, counted, count-is)

-- what was found, where the signs are kept
pub found-by : (sought : Sought) (budget : ℕ) (ended : Ended (Vec ℕ)) →
    IsEnded (reading_of (λ signs. signs.items) (λ sign. sign) sought) budget ended →
    IsFound sought.instance.now sought.threshold budget [] [] (found_of ended)
found-by sought budget (Proved text) is =
    (is.0, is.1 ∙ map-id (directions_of sought.instance.now sought.threshold [] []), is.2)
found-by sought budget (Below sequence makespan directions) is = is
found-by sought budget Over is = is

-- what was counted, where their number is kept
pub counted-by : (sought : Sought) (budget : ℕ) (ended : Ended ℕ) →
    IsEnded (reading_of (λ count. replicate count 0) (λ sign. 0) sought) budget ended →
    IsCounted sought.instance.now sought.threshold budget [] [] (counted_of ended)
counted-by sought budget (Proved count) is =
    let text : List ℕ = directions_of sought.instance.now sought.threshold [] [] in
    let zeros : List ℕ = replicate count 0 in
    let size : length zeros ≡ count = length-replicate count 0 in
    let many : length zeros ≡ length text = ap length is.1 ∙ length-map text (λ sign. 0) in
    (is.0, sym size ∙ many, omega (arith, is.2, size))
counted-by sought budget (Below sequence makespan directions) is = is
counted-by sought budget Over is = is
