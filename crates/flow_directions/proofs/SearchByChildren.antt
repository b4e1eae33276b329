-- The directions of a node, by those of its children.
use Rattle.std.proofs.Common.{◌≡◌, ℕ, zero, suc, ◌<◌, nat_le, List, [], ◌∷◌, ◌++◌, length, None, refl, ap}
use Rattle.std.proofs.Common.{sym, ◌∙◌, inl, inr, arith}
use Rattle.std.specs.List.{flat_map}
use Rattle.std.proofs.lemmas.Bool.{cases_Bool, cond-true, cond-false, leb-true, leb-false}
use Rattle.std.proofs.lemmas.Option.{none-some}
use Rattle.flow_shop.specs.Shop.{Shop}
use Rattle.flow_shop.specs.Sequences.{jobs_left}
use Rattle.flow_shop.specs.declared.end.End.{End}
use Rattle.flow_shop.specs.Ends.{end_bound}
use Rattle.flow_shop.specs.Directions.{sign, first_with, last_with}
use Rattle.flow_directions.specs.Search.{end_taken, signs, first_reached, directions_of, first_below}
use Rattle.flow_directions.specs.Search.{DirectionsByChildren, child_visits}
use Rattle.flow_directions.proofs.VisitSteps.{signs-flat_map, visits-high, visits-whole, visits-open}

module _ (shop : Shop) (threshold : ℕ) where
  -- the sign of a node that is opened, and the directions of its children
  abbrev opened : List ℕ → List ℕ → List ℕ
  opened first last =
      sign (end_taken shop threshold first last) ∷ flat_map
      (λ job. directions_of shop threshold (first_with (end_taken shop threshold first last) first job)
      (last_with (end_taken shop threshold first last) last job))
      (jobs_left shop.jobs (first ++ last))

  some-left : (first last : List ℕ) → end_bound shop first last < threshold →
      first_below shop threshold first last ≡ None → (left : ℕ) →
      length (jobs_left shop.jobs (first ++ last)) ≡ left → 0 < left
  some-left first last low none zero count =
      absurd (none-some (first ++ last)
      (sym none ∙ ap first_reached (visits-whole shop threshold first last count low)))
  some-left first last low none (suc left) count = omega arith

  by-children : (first last : List ℕ) → end_bound shop first last < threshold →
      first_below shop threshold first last ≡ None → directions_of shop threshold first last ≡ opened first last
  by-children first last low none =
      let end : End = end_taken shop threshold first last in
      let some : 0 < length (jobs_left shop.jobs (first ++ last)) =
      some-left first last low none (length (jobs_left shop.jobs (first ++ last))) refl in
      let step = visits-open shop threshold first last some low in
      ap signs step
      ∙ ap (λ s. sign end ∷ s) (signs-flat_map (child_visits shop threshold end first last)
      (jobs_left shop.jobs (first ++ last)) (sym (ap first_reached step) ∙ none))

pub directions_by_children : DirectionsByChildren
directions_by_children shop threshold first last are none =
    let reached = nat_le threshold (end_bound shop first last) in
    elim (cases_Bool (nat_le threshold (end_bound shop first last))) [
      | inl high ↦ ap signs (visits-high shop threshold first last (leb-true threshold (end_bound shop first last) high))
          ∙ sym (cond-true reached [] (opened shop threshold first last) high)
      | inr low ↦ by-children shop threshold first last (leb-false threshold (end_bound shop first last) low) none
          ∙ sym (cond-false reached [] (opened shop threshold first last) low)
    ]
