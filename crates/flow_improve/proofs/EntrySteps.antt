-- Entries once a job is put at an end.
use Rattle.std.proofs.Common.{◌≡◌, ℕ, ◌+◌, ◌-◌, ◌<◌, ◌≤◌, true, false, ◌||◌, nat_eq, List, [], ◌∷◌, ◌++◌}
use Rattle.std.proofs.Common.{length, slice_index, take, drop, set, ap, sym, ◌∙◌, subst, inl, inr, arith}
use Rattle.std.specs.List.{swap}
use Rattle.std.specs.List.Sorted.{IsPermutation}
use Rattle.std.proofs.lemmas.Bool.{false≢true}
use Rattle.std.proofs.lemmas.List.{take-append-drop, take-set-le, take_more_set, drop-set-lt, drop-set}
use Rattle.std.proofs.lemmas.List.{get_or-take, get_or-drop, length-set, length-take, length-drop}
use Rattle.std.proofs.lemmas.List.Edits.{swap_is}
use Rattle.std.proofs.lemmas.List.Folds.{list_any-append}
use Rattle.flow_shop.specs.Shop.{Shop}
use Rattle.flow_shop.specs.Sequences.{has, AreDistinct}
use Rattle.flow_nodes.specs.Nodes.{IsNode}
use Rattle.flow_shop.proofs.JobsLeft.{apart, bool_cases}
use Rattle.flow_bound.proofs.ByTotal.{sequence-moved}
use Rattle.flow_bound.proofs.Places.{has-at}
use Rattle.flow_improve.specs.internal.Beams.{IsEntry, first_of, last_of, job_at}
use Rattle.flow_improve.specs.declared.two_ended.entry.Entry.{Entry}

-- neither list of an entry has a job between them
left-between : (jobs : List ℕ) (first place before : ℕ) → AreDistinct jobs → first ≤ place → place < before →
    before ≤ length jobs → has (take first jobs ++ drop before jobs) (slice_index jobs place) ≡ false
left-between jobs first place before distinct from low within =
    let job = slice_index jobs place in
    let behind : has (drop before jobs) job ≡ false =
    apart (take before jobs) (drop before jobs) job
    (subst AreDistinct (sym (take-append-drop before jobs)) distinct)
    (ap (has (take before jobs)) (sym (get_or-take before jobs place 0 low))
    ∙ has-at (take before jobs) place (omega (arith, low, within, length-take before jobs))) in
    let there : has (drop first jobs) job ≡ true =
    let is : slice_index (drop first jobs) (place - first) ≡ job =
    get_or-drop first jobs (place - first) 0 ∙ ap (slice_index jobs) (omega (arith, from)) in
    ap (has (drop first jobs)) (sym is)
    ∙ has-at (drop first jobs) (place - first) (omega (arith, from, low, within, length-drop first jobs)) in
    let ahead : has (take first jobs) job ≡ false = elim (bool_cases (has (take first jobs) job)) [
      | inl held ↦ absurd (false≢true (sym (apart (take first jobs) (drop first jobs) job
          (subst AreDistinct (sym (take-append-drop first jobs)) distinct) held) ∙ there))
      | inr free ↦ free
    ] in
    list_any-append (nat_eq job) (take first jobs) (drop before jobs)
    ∙ ap (λ b. b || has (drop before jobs) job) ahead ∙ behind

-- the lists once a job between them is put behind the first one
lists-front : (jobs : List ℕ) (first place before : ℕ) → first ≤ place → place < before → before ≤ length jobs →
    (take (first + 1) (swap jobs place first) ≡ take first jobs ++ slice_index jobs place ∷ [])
    × (drop before (swap jobs place first) ≡ drop before jobs)
lists-front jobs first place before from low within =
    let moved = set jobs place (slice_index jobs first) in
    let is : set moved first (slice_index jobs place) ≡ swap jobs place first =
    swap_is jobs place first 0 (omega (arith, low, within)) (omega (arith, from, low, within)) in (
      ap (take (first + 1)) (sym is)
          ∙ take_more_set moved first (slice_index jobs place)
          (omega (arith, from, low, within, length-set jobs place (slice_index jobs first)))
          ∙ ap (λ l. l ++ slice_index jobs place ∷ []) (take-set-le first jobs place (slice_index jobs first) from),
      ap (drop before) (sym is)
          ∙ drop-set-lt before moved first (slice_index jobs place) (omega (arith, from, low))
          ∙ drop-set-lt before jobs place (slice_index jobs first) low,
    )

-- the lists once a job between them is put before the last one
lists-back : (jobs : List ℕ) (first place before : ℕ) → first ≤ place → place ≤ before → before < length jobs →
    (take first (swap jobs place before) ≡ take first jobs)
    × (drop before (swap jobs place before) ≡ slice_index jobs place ∷ drop (before + 1) jobs)
lists-back jobs first place before from low within =
    let moved = set jobs place (slice_index jobs before) in
    let is : set moved before (slice_index jobs place) ≡ swap jobs place before =
    swap_is jobs place before 0 (omega (arith, low, within)) within in (
      ap (take first) (sym is)
          ∙ take-set-le first moved before (slice_index jobs place) (omega (arith, from, low))
          ∙ take-set-le first jobs place (slice_index jobs before) from,
      ap (drop before) (sym is)
          ∙ drop-set moved before (slice_index jobs place)
          (omega (arith, within, length-set jobs place (slice_index jobs before)))
          ∙ ap (λ l. slice_index jobs place ∷ l)
          (drop-set-lt (before + 1) jobs place (slice_index jobs before) (omega (arith, low))),
    )

-- the job of an entry between its two lists is in neither
pub is-left : (shop : Shop) (entry : Entry) (place job : ℕ) → IsEntry shop entry → entry.first ≤ place →
    place < entry.before → job ≡ job_at entry place → has (first_of entry ++ last_of entry) job ≡ false
is-left shop entry place job is from low read =
    ap (has (first_of entry ++ last_of entry)) read
    ∙ left-between entry.jobs.items entry.first place entry.before is.jobs.each.distinct from low
    (omega (arith, is.within, is.jobs.whole))

-- a job is put at the front
pub entry-front : (shop : Shop) (entry new : Entry) (place : ℕ) → IsEntry shop entry → entry.first ≤ place →
    place < entry.before → IsPermutation entry.jobs.items new.jobs.items →
    new.jobs.items ≡ swap entry.jobs.items place entry.first → new.first ≡ entry.first + 1 →
    new.before ≡ entry.before → IsNode shop (first_of entry ++ job_at entry place ∷ []) (last_of entry) new.node →
    IsEntry shop new
entry-front shop entry new place is from low moved jobs first before node =
    let lists = lists-front entry.jobs.items entry.first place entry.before from low
    (omega (arith, is.within, is.jobs.whole)) in
    let first_is : first_of new ≡ first_of entry ++ job_at entry place ∷ [] =
    ap (λ n. take n new.jobs.items) first ∙ ap (take (entry.first + 1)) jobs ∙ lists.0 in
    let last_is : last_of new ≡ last_of entry =
    ap (λ n. drop n new.jobs.items) before ∙ ap (drop entry.before) jobs ∙ lists.1 in
    record {
      jobs = sequence-moved shop.jobs entry.jobs.items new.jobs.items moved is.jobs;
      order = omega (arith, from, low, first, before);
      within = omega (arith, is.within, before);
      node = subst (λ l. IsNode shop l (last_of new) new.node) (sym first_is)
          (subst (λ l. IsNode shop (first_of entry ++ job_at entry place ∷ []) l new.node) (sym last_is) node);
    }

-- a job is put at the back
pub entry-back : (shop : Shop) (entry new : Entry) (place : ℕ) → IsEntry shop entry → entry.first ≤ place →
    place < entry.before → IsPermutation entry.jobs.items new.jobs.items →
    new.jobs.items ≡ swap entry.jobs.items place (entry.before - 1) → new.first ≡ entry.first →
    new.before ≡ entry.before - 1 → IsNode shop (first_of entry) (job_at entry place ∷ last_of entry) new.node →
    IsEntry shop new
entry-back shop entry new place is from low moved jobs first before node =
    let lists = lists-back entry.jobs.items entry.first place (entry.before - 1) from (omega (arith, low))
    (omega (arith, low, is.within, is.jobs.whole)) in
    let next : entry.before - 1 + 1 ≡ entry.before = omega (arith, low) in
    let first_is : first_of new ≡ first_of entry =
    ap (λ n. take n new.jobs.items) first ∙ ap (take entry.first) jobs ∙ lists.0 in
    let last_is : last_of new ≡ job_at entry place ∷ last_of entry =
    ap (λ n. drop n new.jobs.items) before ∙ ap (drop (entry.before - 1)) jobs ∙ lists.1
    ∙ ap (λ n. job_at entry place ∷ drop n entry.jobs.items) next in
    record {
      jobs = sequence-moved shop.jobs entry.jobs.items new.jobs.items moved is.jobs;
      order = omega (arith, from, low, first, before);
      within = omega (arith, is.within, before);
      node = subst (λ l. IsNode shop l (last_of new) new.node) (sym first_is)
          (subst (λ l. IsNode shop (first_of entry) l new.node) (sym last_is) node);
    }
