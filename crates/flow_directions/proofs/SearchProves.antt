-- The directions of the search prove the threshold where it reaches no sequence below it.
use Rattle.std.proofs.Common.{◌≡◌, ℕ, zero, suc, ◌≤◌, nat_le, List, [], ◌∷◌, ◌++◌, length, map, None, refl, ap}
use Rattle.std.proofs.Common.{sym, ◌∙◌, inl, inr, arith}
use Rattle.std.specs.List.{AllZip, flat_map, AllByRecursion}
use Rattle.std.proofs.lemmas.Bool.{cases_Bool, leb-true, leb-false}
use Rattle.std.proofs.lemmas.List.Concat.{concat_is}
use Rattle.std.proofs.lemmas.List.Folds.{flat_map-map}
use Rattle.std.proofs.lemmas.Option.{none-some}
use Rattle.flow_shop.specs.Shop.{Shop}
use Rattle.flow_shop.specs.Sequences.{jobs_left, AreJobs}
use Rattle.flow_shop.specs.declared.end.End.{End}
use Rattle.flow_shop.specs.Ends.{end_bound}
use Rattle.flow_shop.specs.Directions.{sign, first_with, last_with, ProvesWith}
use Rattle.flow_directions.specs.Search.{end_taken, signs, first_reached, directions_of, first_below}
use Rattle.flow_directions.specs.Search.{DirectionsProve, child_visits}
use Rattle.flow_directions.proofs.VisitSteps.{none-each, signs-flat_map}
use Rattle.flow_directions.proofs.VisitSteps.{visits-high, visits-whole, visits-open}
use Rattle.flow_directions.proofs.NodeLists.{IsChild, each-child}

-- of two facts of each job follows a third, of the job and its text
each-zip : (P Q : ℕ → Type 0) (R : ℕ → List ℕ → Type 0) (text : ℕ → List ℕ) (jobs : List ℕ) →
    ((job : ℕ) → P job → Q job → R job (text job)) → AllByRecursion P jobs → AllByRecursion Q jobs →
    AllZip R jobs (map text jobs)
each-zip P Q R text [] follows p q = tt
each-zip P Q R text (job ∷ jobs) follows p q =
    (follows job p.0 q.0, each-zip P Q R text jobs follows p.1 q.1)

module _ (shop : Shop) (threshold : ℕ) where
  -- what the children's directions prove
  child-proved : (end : End) (first last : List ℕ) (left : ℕ) →
      ((job : ℕ) → IsChild shop.jobs end first last left job →
      first_reached (child_visits shop threshold end first last job) ≡ None →
      ProvesWith shop threshold left (first_with end first job) (last_with end last job)
      (signs (child_visits shop threshold end first last job))) → AreJobs shop.jobs (first ++ last) →
      length (jobs_left shop.jobs (first ++ last)) ≡ suc left →
      first_reached (flat_map (child_visits shop threshold end first last) (jobs_left shop.jobs (first ++ last))) ≡ None →
      AllZip (λ job part. ProvesWith shop threshold left (first_with end first job) (last_with end last job) part)
      (jobs_left shop.jobs (first ++ last))
      (map (λ job. signs (child_visits shop threshold end first last job)) (jobs_left shop.jobs (first ++ last)))
  child-proved end first last left proves are some none =
      each-zip (IsChild shop.jobs end first last left)
      (λ job. first_reached (child_visits shop threshold end first last job) ≡ None)
      (λ job part. ProvesWith shop threshold left (first_with end first job) (last_with end last job) part)
      (λ job. signs (child_visits shop threshold end first last job)) (jobs_left shop.jobs (first ++ last)) proves
      (each-child shop.jobs end first last left are some)
      (none-each (child_visits shop threshold end first last) (jobs_left shop.jobs (first ++ last)) none)

  proved : (left : ℕ) (first last : List ℕ) → AreJobs shop.jobs (first ++ last) →
      length (jobs_left shop.jobs (first ++ last)) ≡ left → first_below shop threshold first last ≡ None →
      ProvesWith shop threshold left first last (directions_of shop threshold first last)
  proved zero first last are count none = elim (cases_Bool (nat_le threshold (end_bound shop first last))) [
    | inl reached ↦
        let high : threshold ≤ end_bound shop first last = leb-true threshold (end_bound shop first last) reached in
        (ap signs (visits-high shop threshold first last high), high)
    | inr below ↦
        let low = leb-false threshold (end_bound shop first last) below in
        absurd (none-some (first ++ last)
        (sym none ∙ ap first_reached (visits-whole shop threshold first last count low)))
  ]
  proved (suc left) first last are count none = elim (cases_Bool (nat_le threshold (end_bound shop first last))) [
    | inl reached ↦
        let high : threshold ≤ end_bound shop first last = leb-true threshold (end_bound shop first last) reached in
        inl (ap signs (visits-high shop threshold first last high), high)
    | inr below ↦
        let low = leb-false threshold (end_bound shop first last) below in
        let end : End = end_taken shop threshold first last in
        let jobs : List ℕ = jobs_left shop.jobs (first ++ last) in
        let text : ℕ → List ℕ = λ job. signs (child_visits shop threshold end first last job) in
        let step = visits-open shop threshold first last (omega (arith, count)) low in
        let none_below : first_reached (flat_map (child_visits shop threshold end first last) jobs) ≡ None =
        sym (ap first_reached step) ∙ none in
        inr (
          end,
          map text jobs,
          low,
          ap signs step
              ∙ ap (λ s. sign end ∷ s) (signs-flat_map (child_visits shop threshold end first last) jobs none_below
              ∙ sym (concat_is (map text jobs) ∙ flat_map-map (λ x. x) text jobs)),
          child-proved end first last left
              (λ job child none. proved left (first_with end first job) (last_with end last job) child.0 child.1 none)
              are count none_below,
        )
  ]

pub directions_prove : DirectionsProve
directions_prove shop threshold first last are none =
    proved shop threshold (length (jobs_left shop.jobs (first ++ last))) first last are refl none
