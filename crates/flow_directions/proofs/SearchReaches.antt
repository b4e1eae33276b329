-- What the search reaches is a sequence of the node, below the threshold; and it reaches none only where there is none.
use Rattle.std.proofs.Common.{◌≡◌, ℕ, zero, suc, ◌<◌, ◌≤◌, nat_le, List, [], ◌∷◌, ◌++◌, length, Some, None, refl, ap}
use Rattle.std.proofs.Common.{sym, ◌∙◌, subst, inl, inr, arith, append_assoc, append-nil}
use Rattle.std.specs.List.{AllByRecursion}
use Rattle.std.proofs.lemmas.Bool.{cases_Bool, leb-true, leb-false}
use Rattle.std.proofs.lemmas.Option.{none-some, same_Some}
use Rattle.flow_shop.specs.Shop.{Shop}
use Rattle.flow_shop.specs.Paths.{span}
use Rattle.flow_shop.specs.Sequences.{jobs_left, AreJobs, IsSequence}
use Rattle.flow_shop.specs.declared.end.End.{End}
use Rattle.flow_shop.specs.declared.end.End.TheVariants.{Front, Back}
use Rattle.flow_shop.specs.Ends.{end_bound}
use Rattle.flow_shop.specs.Directions.{first_with, last_with}
use Rattle.flow_shop.proofs.Lists.{all-at}
use Rattle.flow_shop.proofs.EndBounds.{end_bound_is_exact}
use Rattle.flow_shop.proofs.DirectionsSound.{directions_are_sound}
use Rattle.flow_directions.specs.Search.{end_taken, first_reached, directions_of, first_below, IsOfNode, child_visits}
use Rattle.flow_directions.specs.Search.{ReachedIsBelow, ReachesNoneBelow}
use Rattle.flow_directions.proofs.VisitSteps.{none-or-reached, reached-flat_map}
use Rattle.flow_directions.proofs.VisitSteps.{visits-high, visits-whole, visits-open}
use Rattle.flow_directions.proofs.NodeLists.{IsChild, each-child, whole-node}
use Rattle.flow_directions.proofs.SearchProves.{directions_prove}

-- the lists of a node without jobs left are a sequence of it
of-whole : (shop : Shop) (first last jobs : List ℕ) → first ++ last ≡ jobs → IsSequence shop.jobs (first ++ last) →
    IsOfNode shop first last jobs
of-whole shop first last jobs same is =
    ([], sym same ∙ ap (λ xs. xs ++ last) (sym (append-nil first)), subst (IsSequence shop.jobs) same is)

-- a sequence of a child is one of the node
of-child : (shop : Shop) (end : End) (first last : List ℕ) (job : ℕ) (jobs : List ℕ) →
    IsOfNode shop (first_with end first job) (last_with end last job) jobs → IsOfNode shop first last jobs
of-child shop Front first last job jobs of = (
  job ∷ of.0,
  of.1 ∙ ap (λ xs. xs ++ last) (append_assoc first (job ∷ []) of.0),
  of.2,
)
of-child shop Back first last job jobs of = (
  of.0 ++ job ∷ [],
  of.1
      ∙ sym (append_assoc (first ++ of.0) (job ∷ []) last)
      ∙ ap (λ xs. xs ++ last) (append_assoc first of.0 (job ∷ [])),
  of.2,
)

module _ (shop : Shop) (threshold : ℕ) where
  -- a sequence that is reached at a node
  abbrev IsReached : List ℕ → List ℕ → List ℕ → Type 0
  IsReached first last jobs = IsOfNode shop first last jobs × (span shop jobs < threshold)

  -- where no job is left
  at-whole : (first last jobs : List ℕ) → AreJobs shop.jobs (first ++ last) →
      length (jobs_left shop.jobs (first ++ last)) ≡ 0 → end_bound shop first last < threshold →
      first_below shop threshold first last ≡ Some jobs → IsReached first last jobs
  at-whole first last jobs are none low reached =
      let is = whole-node shop.jobs (first ++ last) are none in
      let same : first ++ last ≡ jobs = same_Some (first ++ last) jobs
      (sym (ap first_reached (visits-whole shop threshold first last none low)) ∙ reached) in (
        of-whole shop first last jobs same is,
        omega (arith, low, end_bound_is_exact shop first last is, ap (span shop) same),
      )

  -- where the bound is at least the threshold
  at-high : (first last jobs : List ℕ) → threshold ≤ end_bound shop first last →
      first_below shop threshold first last ≡ Some jobs → IsReached first last jobs
  at-high first last jobs high reached =
      absurd (none-some jobs (sym (ap first_reached (visits-high shop threshold first last high)) ∙ reached))

  below : (left : ℕ) (first last jobs : List ℕ) → AreJobs shop.jobs (first ++ last) →
      length (jobs_left shop.jobs (first ++ last)) ≡ left → first_below shop threshold first last ≡ Some jobs →
      IsReached first last jobs
  below zero first last jobs are count reached = elim (cases_Bool (nat_le threshold (end_bound shop first last))) [
    | inl high ↦ at-high first last jobs (leb-true threshold (end_bound shop first last) high) reached
    | inr low ↦ at-whole first last jobs are count (leb-false threshold (end_bound shop first last) low) reached
  ]
  below (suc left) first last jobs are count reached = elim (cases_Bool (nat_le threshold (end_bound shop first last))) [
    | inl high ↦ at-high first last jobs (leb-true threshold (end_bound shop first last) high) reached
    | inr low ↦
        let end : End = end_taken shop threshold first last in
        let step = visits-open shop threshold first last (omega (arith, count))
        (leb-false threshold (end_bound shop first last) low) in
        let part = reached-flat_map (child_visits shop threshold end first last) (jobs_left shop.jobs (first ++ last)) jobs
        (sym (ap first_reached step) ∙ reached) in
        let job : ℕ = part.1 in
        let child = all-at (IsChild shop.jobs end first last left) part.0 job part.2
        (subst (AllByRecursion (IsChild shop.jobs end first last left)) part.3.jobs_are
        (each-child shop.jobs end first last left are count)) in
        let is = below left (first_with end first job) (last_with end last job) jobs child.0 child.1 part.3.reached in
        (of-child shop end first last job jobs is.0, is.1)
  ]

pub reached_is_below : ReachedIsBelow
reached_is_below shop threshold first last jobs are reached =
    below shop threshold (length (jobs_left shop.jobs (first ++ last))) first last jobs are refl reached

-- where it reaches none, no sequence of the node is below the threshold
none-below : (shop : Shop) (threshold : ℕ) (first last jobs : List ℕ) → AreJobs shop.jobs (first ++ last) →
    first_below shop threshold first last ≡ None → IsOfNode shop first last jobs → threshold ≤ span shop jobs
none-below shop threshold first last jobs are none of =
    subst (λ jobs. threshold ≤ span shop jobs) (sym of.1)
    (directions_are_sound shop threshold first of.0 last (directions_of shop threshold first last)
    (directions_prove shop threshold first last are none) (subst (IsSequence shop.jobs) of.1 of.2))

-- where none is below the threshold, it reaches none
none-reached : (shop : Shop) (threshold : ℕ) (first last : List ℕ) → AreJobs shop.jobs (first ++ last) →
    ((jobs : List ℕ) → IsOfNode shop first last jobs → threshold ≤ span shop jobs) →
    first_below shop threshold first last ≡ None
none-reached shop threshold first last are lower = elim (none-or-reached (first_below shop threshold first last)) [
  | inl none ↦ none
  | inr found ↦
      let is = reached_is_below shop threshold first last found.0 are found.1 in
      absurd (omega (arith, is.1, lower found.0 is.0))
]

pub reaches_none_below : ReachesNoneBelow
reaches_none_below shop threshold first last are = (
  λ none jobs of. none-below shop threshold first last jobs are none of,
  none-reached shop threshold first last are,
)
