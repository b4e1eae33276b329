-- Lists of distinct jobs, job by job; and the set of the jobs of a list.
use Rattle.std.proofs.Common.{◌≡◌, ℕ, suc, ◌+◌, ◌-◌, ◌<◌, ◌≤◌, Bool, true, false, cond, not, ◌||◌, nat_eq}
use Rattle.std.proofs.Common.{List, [], ◌∷◌, ◌++◌, length, take, drop, slice_index, slice_set, ap, sym}
use Rattle.std.proofs.Common.{◌∙◌, subst}
use Rattle.std.proofs.Common.{arith, append-nil, append_assoc, length-append}
use Rattle.std.specs.List.{filter}
use Rattle.std.proofs.lemmas.Bool.{false≢true}
use Rattle.std.proofs.lemmas.List.{take_more_set}
use Rattle.std.proofs.lemmas.List.{take-append-drop}
use Rattle.std.proofs.lemmas.List.Folds.{list_any-append}
use Rattle.flow_shop.specs.Shop.{Shop, numbers}
use Rattle.flow_shop.specs.JobSet.{AreTaken}
use Rattle.flow_shop.specs.Sequences.{has, jobs_left, AreJobs}
use Rattle.flow_shop.proofs.JobsLeft.{distinct-rest, or_false}
use Rattle.flow_shop.proofs.JobsLeft.{filter-more}
use Rattle.flow_shop.proofs.Lists.{drop-at}
use Rattle.flow_shop.proofs.SequenceLemmas.{jobs-no-fault}
use Rattle.flow_shop.proofs.Taken.{left_under, left_from, left-split}
use Rattle.flow_directions.specs.internal.Start.{IsStart}
use Rattle.flow_directions.specs.declared.start.StartNode.{StartNode}
use Rattle.flow_directions.proofs.NodeLists.{left-length}
use Rattle.flow_shop.proofs.JobLists.{IsNext, next-job}
use Rattle.flow_shop.specs.SequenceFaults.{place_fault}
use Rattle.flow_shop.specs.declared.sequence.SequenceFault.{SequenceFault}
use Rattle.std.specs.Option.{is_some}
use Rattle.std.proofs.Common.{Option, Some, None, zero-add}
use Rattle.std.specs.Prelude.{IfNone}

-- a job of a list is apart from those before it, but for some, and those behind it
pub next-between : (n : ℕ) (first between rest : List ℕ) (job : ℕ) → AreJobs n (first ++ (between ++ job ∷ rest)) →
    IsNext n (first ++ rest) job
next-between n first between rest job are =
    let all = subst (AreJobs n) (sym (append_assoc first between (job ∷ rest))) are in
    let next = next-job n (first ++ between) rest job all in
    let before = or_false (has first job) (has between job)
    (sym (list_any-append (nat_eq job) first between) ∙ next.fresh) in
    let behind = distinct-rest (first ++ between) (job ∷ rest) all.distinct in
    record {
      from = next.from;
      to = next.to;
      fresh = list_any-append (nat_eq job) first rest
          ∙ ap (λ b. b || has rest job) before.0
          ∙ behind.0;
    }

-- the job before a place is in neither list, where the last one begins at that place
pub next-back : (n : ℕ) (first last : List ℕ) (place : ℕ) → 1 ≤ place → place ≤ length last →
    AreJobs n (first ++ last) → IsNext n (first ++ drop place last) (slice_index last (place - 1))
next-back n first last place low high are =
    let split : last ≡ take (place - 1) last ++ slice_index last (place - 1) ∷ drop place last =
    sym (take-append-drop (place - 1) last) ∙ ap (λ xs. take (place - 1) last ++ xs) (drop-at last place low high) in
    next-between n first (take (place - 1) last) (drop place last) (slice_index last (place - 1))
    (subst (AreJobs n) (ap (λ xs. first ++ xs) split) are)

-- so many jobs are in two lists
pub count-both : (n : ℕ) (first last : List ℕ) → AreJobs n (first ++ last) →
    length first + length last + length (jobs_left n (first ++ last)) ≡ n
count-both n first last are = omega (arith, left-length n (first ++ last) are, length-append first last)

-- one more number that a list may leave
pub under-more : (list : List ℕ) (job : ℕ) → 1 ≤ job →
    left_under list (job + 1) ≡ left_under list job ++ cond (not (has list job)) (job ∷ []) []
under-more list job low =
    let last : suc (job - 1) ≡ job = omega arith in
    let next : job + 1 - 1 ≡ suc (job - 1) = omega arith in
    let p : ℕ → Bool = λ k. not (has list k) in
    ap (λ n. filter p (numbers 1 n)) next
    ∙ filter-more p (job - 1)
    ∙ ap (λ k. left_under list job ++ cond (p k) (k ∷ []) []) last

-- which it has
pub under-had : (list : List ℕ) (job : ℕ) → 1 ≤ job → has list job ≡ true →
    left_under list (job + 1) ≡ left_under list job
under-had list job low had =
    under-more list job low
    ∙ ap (λ b. left_under list job ++ cond (not b) (job ∷ []) []) had ∙ append-nil (left_under list job)

-- or leaves
pub under-left : (list : List ℕ) (job : ℕ) → 1 ≤ job → has list job ≡ false →
    left_under list (job + 1) ≡ left_under list job ++ job ∷ []
under-left list job low left =
    under-more list job low ∙ ap (λ b. left_under list job ++ cond (not b) (job ∷ []) []) left

-- below a job that is left there are fewer than all
pub under-fewer : (n : ℕ) (list : List ℕ) (job : ℕ) → 1 ≤ job → job ≤ n → has list job ≡ false →
    length (left_under list job) < length (jobs_left n list)
under-fewer n list job low high fresh =
    omega (
      arith,
      ap length (left-split n list job low high fresh),
      length-append (left_under list job) (job ∷ left_from n list (job + 1)),
    )

-- there are fewer than are left at a start
pub count-within : (shop : Shop) (first last : List ℕ) (start : StartNode) (count job : ℕ) →
    IsStart shop first last start → 1 ≤ job → job ≤ shop.jobs → has (first ++ last) job ≡ false →
    count ≡ length (left_under (first ++ last) job) → count < start.left
count-within shop first last start count job is low high fresh same =
    omega (arith, under-fewer shop.jobs (first ++ last) job low high fresh, same, is.left)

-- a job that is left is written behind those below it
pub names-left : (names list : List ℕ) (count job : ℕ) → count < length names → 1 ≤ job → has list job ≡ false →
    take count names ≡ left_under list job → take (count + 1) (slice_set names count job) ≡ left_under list (job + 1)
names-left names list count job within low fresh before =
    take_more_set names count job within ∙ ap (λ xs. xs ++ job ∷ []) before ∙ sym (under-left list job low fresh)

-- and counted
pub count-left : (list : List ℕ) (count job : ℕ) → 1 ≤ job → has list job ≡ false →
    count ≡ length (left_under list job) → count + 1 ≡ length (left_under list (job + 1))
count-left list count job low fresh before =
    omega (arith, before, ap length (under-left list job low fresh), length-append (left_under list job) (job ∷ []))

-- jobs with a fault are not distinct
pub not-taken : (n : ℕ) (earlier jobs : List ℕ) (fault : Option SequenceFault) → fault ≡ place_fault n earlier jobs →
    is_some fault ≡ true → AreJobs n (earlier ++ jobs) → ⊥
not-taken n earlier jobs fault is some are =
    false≢true (sym (ap is_some (is ∙ jobs-no-fault n earlier jobs are)) ∙ some)

-- what holds where there is no fault
where-none : {F : Type 0} (P : Type 0) (fault : Option F) → IfNone fault P → is_some fault ≡ false → P
where-none P None holds none = holds
where-none P (Some fault) holds none = absurd (false≢true (sym none))

-- the jobs of the first list are taken, and then those of the last
pub first-taken : {F : Type 0} (shop : Shop) (first : List ℕ) (set : List Bool) (fault : Option F) →
    IfNone fault (AreTaken shop first (0 + length first) set) → is_some fault ≡ false →
    AreTaken shop first (length first) set
first-taken shop first set fault taken none =
    subst (λ count. AreTaken shop first count set) (zero-add (length first))
    (where-none (AreTaken shop first (0 + length first) set) fault taken none)

pub both-taken : {F : Type 0} (shop : Shop) (first last : List ℕ) (set : List Bool) (fault : Option F) →
    IfNone fault (AreTaken shop (first ++ last) (length first + length last) set) → is_some fault ≡ false →
    AreTaken shop (first ++ last) (length first + length last) set
both-taken shop first last set fault taken none =
    where-none (AreTaken shop (first ++ last) (length first + length last) set) fault taken none
