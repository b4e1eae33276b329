-- The children of a node that are below the threshold, and what is met there.
use Rattle.std.proofs.Common.{◌≡◌, ℕ, ◌+◌, ◌-◌, ◌<◌, Bool, true, false, cond, not, ◌||◌, nat_eq, nat_lt}
use Rattle.std.proofs.Common.{List, [], ◌∷◌, ◌++◌, length, drop, filter, refl, ap, sym, ◌∙◌, subst}
use Rattle.std.proofs.Common.{inl, inr, arith, append_assoc, append-nil}
use Rattle.std.specs.List.{flat_map, AllByRecursion}
use Rattle.std.proofs.lemmas.Bool.{cases_Bool, ltb-false, ltb-true}
use Rattle.std.proofs.lemmas.List.{take-append-drop}
use Rattle.flow_shop.specs.Shop.{Shop, numbers}
use Rattle.flow_shop.specs.Sequences.{has, jobs_left, AreDistinct}
use Rattle.flow_shop.specs.Ends.{end_bound}
use Rattle.flow_shop.specs.Directions.{first_with, last_with}
use Rattle.flow_shop.specs.declared.end.End.{End}
use Rattle.flow_shop.proofs.JobsLeft.{each-left}
use Rattle.flow_shop.proofs.LeastFound.{in-order}
use Rattle.flow_directions.specs.internal.Levels.{IsOpen}
use Rattle.flow_nodes.specs.Groups.{child_bound}
use Rattle.flow_directions.specs.Search.{end_taken, Visit, opens, visits}
use Rattle.flow_nodes.specs.Packs.{left_below}
use Rattle.flow_directions.specs.Search.{child_visits, part_visits}
use Rattle.flow_directions.specs.Search.{parts_visits}
use Rattle.flow_directions.specs.declared.found.Part.{Part}
use Rattle.flow_directions.specs.internal.Lists.{HasLists}
use Rattle.flow_directions.specs.declared.lists.Lists.{Lists}
use Rattle.flow_directions.proofs.VisitSteps.{visits-high, visits-open}

-- lists that are empty may be left out
flat-kept : (f : ℕ → List Visit) (p : ℕ → Bool) (jobs : List ℕ) →
    AllByRecursion (λ job. p job ≡ false → f job ≡ []) jobs → flat_map f jobs ≡ flat_map f (filter p jobs)
flat-kept f p [] each = refl
flat-kept f p (job ∷ jobs) each =
    let more : flat_map f jobs ≡ flat_map f (filter p jobs) = flat-kept f p jobs each.1 in
    elim (cases_Bool (p job)) [
      | inl is ↦ ap (λ xs. f job ++ xs) more
          ∙ sym (ap (λ b. flat_map f (cond b (job ∷ filter p jobs) (filter p jobs))) is)
      | inr is ↦ ap (λ xs. xs ++ flat_map f jobs) (each.0 is) ∙ more
          ∙ sym (ap (λ b. flat_map f (cond b (job ∷ filter p jobs) (filter p jobs))) is)
    ]

-- a fact of each element that is kept
each-kept : (P : ℕ → Type 0) (p : ℕ → Bool) (jobs : List ℕ) → AllByRecursion (λ job. p job ≡ true → P job) jobs →
    AllByRecursion P (filter p jobs)
each-kept P p [] each = tt
each-kept P p (job ∷ jobs) each =
    let more : AllByRecursion P (filter p jobs) = each-kept P p jobs each.1 in
    elim (cases_Bool (p job)) [
      | inl is ↦ subst (λ b. AllByRecursion P (cond b (job ∷ filter p jobs) (filter p jobs))) (sym is)
          (each.0 is, more)
      | inr is ↦ subst (λ b. AllByRecursion P (cond b (job ∷ filter p jobs) (filter p jobs))) (sym is) more
    ]

-- a job that a list lacks stands in no part of it that is kept
kept-lacks : (p : ℕ → Bool) (jobs : List ℕ) (job : ℕ) → has jobs job ≡ false → has (filter p jobs) job ≡ false
kept-lacks p [] job lacks = refl
kept-lacks p (other ∷ jobs) job lacks =
    let parts = none-of (nat_eq job other) (has jobs job) lacks in
    let more : has (filter p jobs) job ≡ false = kept-lacks p jobs job parts.1 in
    elim (cases_Bool (p other)) [
      | inl is ↦ ap (λ b. has (cond b (other ∷ filter p jobs) (filter p jobs)) job) is
          ∙ ap (λ b. b || has (filter p jobs) job) parts.0 ∙ more
      | inr is ↦ ap (λ b. has (cond b (other ∷ filter p jobs) (filter p jobs)) job) is ∙ more
    ]
  where
    none-of : (a b : Bool) → (a || b) ≡ false → (a ≡ false) × (b ≡ false)
    none-of true b is = absurd (cc is)
    none-of false b is = (refl, is)

-- what is kept of distinct jobs is distinct
kept-distinct : (p : ℕ → Bool) (jobs : List ℕ) → AreDistinct jobs → AreDistinct (filter p jobs)
kept-distinct p [] are = tt
kept-distinct p (job ∷ jobs) are =
    let more : AreDistinct (filter p jobs) = kept-distinct p jobs are.1 in
    elim (cases_Bool (p job)) [
      | inl is ↦ subst (λ b. AreDistinct (cond b (job ∷ filter p jobs) (filter p jobs))) (sym is)
          (kept-lacks p jobs job are.0, more)
      | inr is ↦ subst (λ b. AreDistinct (cond b (job ∷ filter p jobs) (filter p jobs))) (sym is) more
    ]

module _ (shop : Shop) (threshold : ℕ) (first last : List ℕ) where
  below-kept : (end : End) → flat_map (child_visits shop threshold end first last) (jobs_left shop.jobs (first ++ last))
      ≡ flat_map (child_visits shop threshold end first last) (left_below shop threshold end first last)
  below-kept end =
      let p : ℕ → Bool = λ job. nat_lt (child_bound shop end first last job) threshold in
      flat-kept (child_visits shop threshold end first last) p (jobs_left shop.jobs (first ++ last))
      (each-left (λ job. p job ≡ false → child_visits shop threshold end first last job ≡ []) (first ++ last) 1
      (shop.jobs + 1 - 1) (λ job from to fresh above.
      visits-high shop threshold (first_with end first job) (last_with end last job)
      (ltb-false (child_bound shop end first last job) threshold above)))

  pub below-each : (end : End) → AllByRecursion (IsOpen shop threshold end first last) (left_below shop threshold end first
      last)
  below-each end =
      let p : ℕ → Bool = λ job. nat_lt (child_bound shop end first last job) threshold in
      each-kept (IsOpen shop threshold end first last) p (jobs_left shop.jobs (first ++ last))
      (each-left (λ job. p job ≡ true → IsOpen shop threshold end first last job) (first ++ last) 1
      (shop.jobs + 1 - 1) (λ job from to fresh under. record {
        is_job = (from, omega (arith, to));
        left = fresh;
        below = ltb-true (child_bound shop end first last job) threshold under;
      }))

  pub below-distinct : (end : End) → AreDistinct (left_below shop threshold end first last)
  below-distinct end =
      kept-distinct (λ job. nat_lt (child_bound shop end first last job) threshold) (jobs_left shop.jobs (first ++ last))
      (kept-distinct (λ job. not (has (first ++ last) job)) (numbers 1 shop.jobs) (in-order shop.jobs).each.distinct)

  -- what is met at the node, where it is opened
  pub met-opened : (end : End) (jobs : List ℕ) → 0 < length (jobs_left shop.jobs (first ++ last)) →
      end_bound shop first last < threshold → end ≡ end_taken shop threshold first last →
      jobs ≡ left_below shop threshold end first last →
      visits shop threshold first last ≡ opens end ∷ flat_map (child_visits shop threshold end first last) jobs
  met-opened end jobs some low is are =
      visits-open shop threshold first last some low
      ∙ ap (λ e. opens e ∷ flat_map (child_visits shop threshold e first last) (jobs_left shop.jobs (first ++ last)))
      (sym is)
      ∙ ap (λ v. opens end ∷ v) (below-kept end)
      ∙ ap (λ js. opens end ∷ flat_map (child_visits shop threshold end first last) js) (sym are)

-- what is met at one more part
pub parts-more : (shop : Shop) (threshold : ℕ) (parts : List Part) (part : Part) →
    parts_visits shop threshold (parts ++ part ∷ []) ≡ parts_visits shop threshold parts ++ part_visits shop threshold part
parts-more shop threshold [] part = append-nil (part_visits shop threshold part)
parts-more shop threshold (p ∷ parts) part =
    ap (λ v. part_visits shop threshold p ++ v) (parts-more shop threshold parts part)
    ∙ sym (append_assoc (part_visits shop threshold p) (parts_visits shop threshold parts) (part_visits shop threshold part))

-- the lists of a node, where no job is left
pub whole-lists : (jobs : ℕ) (first last : List ℕ) (lists : Lists) → HasLists jobs first last lists →
    length first + length last ≡ jobs → lists.jobs.items ≡ first ++ last
whole-lists jobs first last lists are whole =
    let e : length first ≡ jobs - length last = omega (arith, whole) in
    sym (take-append-drop (length first) lists.jobs.items)
    ∙ ap (λ xs. xs ++ drop (length first) lists.jobs.items) are.begins
    ∙ ap (λ n. first ++ drop n lists.jobs.items) e
    ∙ ap (λ xs. first ++ xs) are.ends
