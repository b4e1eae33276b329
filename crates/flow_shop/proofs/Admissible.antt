-- The makespan of a sequence that begins with a list is at least the machine bound of the list, and its released bound.
use Rattle.std.proofs.Common.{◌≡◌, ℕ, zero, suc, ◌+◌, ◌-◌, ◌<◌, ◌≤◌, true, false, ◌||◌, nat_eq, List, [], ◌∷◌}
use Rattle.std.proofs.Common.{◌++◌, length, map, slice_index, refl, ap, ◌∙◌, subst, inl, inr, arith, length-append}
use Rattle.std.specs.List.{sum_by}
use Rattle.std.proofs.lemmas.Bool.{cases_lt, eq-eqb}
use Rattle.std.proofs.lemmas.List.Sums.{sum_by-cons}
use Rattle.std.proofs.lemmas.List.Elements.{recursion_from_All}
use Rattle.std.proofs.lemmas.List.FromFn.{get_or-map-range_with_len}
use Rattle.flow_shop.specs.Shop.{Shop, time, time_between}
use Rattle.flow_shop.specs.Paths.{completion, span}
use Rattle.flow_shop.specs.Front.{IsFrontOf}
use Rattle.flow_shop.specs.Least.{least}
use Rattle.flow_shop.specs.Sequences.{has, jobs_left, IsSequence, Extends}
use Rattle.flow_shop.specs.Bound.{machine_bound, released_bound, release, front_of}
use Rattle.flow_shop.specs.Bound.{BoundIsAdmissible, ReleasedBoundIsAdmissible, ReleasedBoundIsStronger}
use Rattle.std.proofs.Math.Bool.{or-true}
use Rattle.flow_shop.proofs.Extremes.{range-le-greatest, greatest-range-le}
use Rattle.flow_shop.proofs.Recurrence.{after, completed, completion-is, time_between-more, time_between-none}
use Rattle.flow_shop.proofs.Recurrence.{time_between-first}
use Rattle.flow_shop.proofs.JobsLeft.{InRange, InRange-rest, sum_by-jobs_left, least-le, left-has}

pub completed-append : (shop : Shop) (free : ℕ → ℕ) (jobs rest : List ℕ) →
    completed shop free (jobs ++ rest) ≡ completed shop (completed shop free jobs) rest
completed-append shop free [] rest = refl
completed-append shop free (j ∷ js) rest = completed-append shop (after shop free j) js rest

-- a job's time on a machine comes after the machine is free
pub after-here : (shop : Shop) (free : ℕ → ℕ) (job k : ℕ) → 1 ≤ k → free k + time shop job k ≤ after shop free job k
after-here shop free job zero low = absurd (omega arith)
after-here shop free job (suc k) low = omega arith

-- and its times on the later machines after that
pub after-later : (shop : Shop) (free : ℕ → ℕ) (job k m : ℕ) → k ≤ m →
    after shop free job k + time_between shop job (k + 1) m ≤ after shop free job m
after-later shop free job k zero h =
    let e : k ≡ 0 = omega arith in
    let same : after shop free job k ≡ 0 = ap (after shop free job) e in
    omega (arith, time_between-none shop job (k + 1) 0 (omega arith))
after-later shop free job k (suc m) h =
    elim (cases_lt m k) [
      | inl here ↦
          let e : k ≡ suc m = omega arith in
          let same : after shop free job k ≡ after shop free job (suc m) = ap (after shop free job) e in
          omega (arith, time_between-none shop job (k + 1) (suc m) (omega arith))
      | inr below ↦ omega (
        arith,
        after-later shop free job k m below,
        time_between-more shop job (k
            + 1) m (omega arith),
      )
    ]

time_between-last : (shop : Shop) (job from k : ℕ) → 1 ≤ k → from ≤ k →
    time_between shop job from k ≡ time_between shop job from (k - 1) + time shop job k
time_between-last shop job from zero low high = absurd (omega arith)
time_between-last shop job from (suc k) low high =
    let e : k ≡ suc k - 1 = omega arith in
    time_between-more shop job from k high ∙ ap (λ n. time_between shop job from n + time shop job (suc k)) e

-- a machine that is free before it delays a job, and so do the times in between
pub after-from : (shop : Shop) (free : ℕ → ℕ) (job from k : ℕ) → 1 ≤ from → from ≤ k →
    free from + time_between shop job from k ≤ after shop free job k
after-from shop free job from k low high =
    omega (
      arith,
      after-here shop free job from low,
      after-later shop free job from k high,
      time_between-first shop job from k high,
    )

-- where the first of some jobs has not left a machine before its time from a start, the jobs follow with their times
-- there, and the last of them still has its tail
pub start-bound : (shop : Shop) (free : ℕ → ℕ) (n k m start j : ℕ) (js : List ℕ) → 1 ≤ k → k ≤ m →
    InRange n (j ∷ js) → start + time shop j k ≤ after shop free j k →
    (last : ℕ) × (has (j ∷ js) last ≡ true) × (1 ≤ last) × (last ≤ n)
    × (start + sum_by (λ job. time shop job k) (j ∷ js) + time_between shop last (k + 1) m
    ≤ completed shop free (j ∷ js) m)
start-bound shop free n k m start j [] low high range begins = (
  j,
  ap (λ b. b || false) (eq-eqb j j refl),
  range.0.0,
  range.0.1,
  omega (arith, begins, after-later shop free j k m high),
)
start-bound shop free n k m start j (i ∷ is) low high range begins =
    let next = after shop free j in
    let ih = start-bound shop next n k m (next k) i is low high range.1 (after-here shop next i k low) in (
      ih.0,
      ap (λ b. nat_eq ih.0 j || b) ih.1 ∙ or-true (nat_eq ih.0 j),
      ih.2,
      ih.3,
      omega (arith, ih.4, begins, sum_by-cons (λ job. time shop job k) j (i ∷ is)),
    )

-- no job that a list leaves has left a machine before its time from a start
abbrev pub Begins : Shop → List ℕ → ℕ → ℕ → Type 0
Begins shop jobs k start =
    (job : ℕ) → has (jobs_left shop.jobs jobs) job ≡ true →
    start + time shop job k ≤ after shop (completed shop (λ _. 0) jobs) job k

-- a start, then the times of the jobs left, and the least tail
pub admissible-start : (shop : Shop) (jobs rest : List ℕ) (k start : ℕ) → 1 ≤ k → k ≤ shop.machines →
    IsSequence shop.jobs (jobs ++ rest) → 0 < length rest → Begins shop jobs k start →
    start + sum_by (λ job. time shop job k) (jobs_left shop.jobs jobs)
    + least (map (λ job. time_between shop job (k + 1) shop.machines) (jobs_left shop.jobs jobs))
    ≤ span shop (jobs ++ rest)
admissible-start shop jobs [] k start low high is some begins = absurd (omega arith)
admissible-start shop jobs (j ∷ js) k start low high is some begins =
    let range = InRange-rest shop.jobs jobs (j ∷ js)
    (recursion_from_All (λ job. (1 ≤ job) × (job ≤ shop.jobs)) (jobs ++ j ∷ js) is.each.range) in
    let first = left-has shop.jobs jobs (j ∷ js) j is (ap (λ b. b || has js j) (eq-eqb j j refl)) range.0.0 range.0.1 in
    let bound = start-bound shop (completed shop (λ _. 0) jobs) shop.jobs k shop.machines start j js low high range
    (begins j first) in
    let owed = sum_by-jobs_left (λ job. time shop job k) shop.jobs jobs (j ∷ js) is in
    let tail = least-le (λ job. time_between shop job (k + 1) shop.machines) (jobs_left shop.jobs jobs) bound.0
    (left-has shop.jobs jobs (j ∷ js) bound.0 is bound.1 bound.2 bound.3) in
    let whole = completion-is shop (jobs ++ j ∷ js) shop.machines in
    let split : completed shop (λ _. 0) (jobs ++ j ∷ js) shop.machines
    ≡ completed shop (completed shop (λ _. 0) jobs) (j ∷ js) shop.machines =
    ap (λ f. f shop.machines) (completed-append shop (λ _. 0) jobs (j ∷ js)) in
    omega (arith, bound.4, owed, tail, whole, split)

pub admissible-front : (shop : Shop) (jobs rest front : List ℕ) (k : ℕ) → 1 ≤ k → k ≤ shop.machines →
    IsSequence shop.jobs (jobs ++ rest) → 0 < length rest → IsFrontOf shop jobs front →
    machine_bound shop front (jobs_left shop.jobs jobs) k ≤ span shop (jobs ++ rest)
admissible-front shop jobs rest front k low high is some is_front =
    admissible-start shop jobs rest k (slice_index front (k - 1)) low high is some (λ job left.
    omega (
      arith,
      is_front k low high,
      completion-is shop jobs k,
      after-here shop (completed shop (λ _. 0) jobs) job k low,
    ))

-- a job left has not left a machine before its time from the release: it follows the front of each earlier machine
begins-release : (shop : Shop) (jobs front : List ℕ) (k : ℕ) → 1 ≤ k → k ≤ shop.machines →
    IsFrontOf shop jobs front → Begins shop jobs k (release shop front (jobs_left shop.jobs jobs) k)
begins-release shop jobs front k low high is_front job left =
    let free = completed shop (λ _. 0) jobs in
    let all = jobs_left shop.jobs jobs in
    let ends = after-here shop free job k low in
    let between = λ (from job : ℕ). time_between shop job from (k - 1) in
    let need = λ (from : ℕ). slice_index front (from - 1) + least (map (between from) all) in
    let below = greatest-range-le need 1 (k + 1 - 1) (after shop free job k - time shop job k)
    (λ from from_low from_high.
    omega (
      arith,
      is_front from from_low (omega arith),
      completion-is shop jobs from,
      least-le (between from) all job left,
      time_between-last shop job from k low (omega arith),
      after-from shop free job from k from_low (omega arith),
    )) in
    omega (arith, ends, below)

pub released-front : (shop : Shop) (jobs rest front : List ℕ) (k : ℕ) → 1 ≤ k → k ≤ shop.machines →
    IsSequence shop.jobs (jobs ++ rest) → 0 < length rest → IsFrontOf shop jobs front →
    released_bound shop front (jobs_left shop.jobs jobs) k ≤ span shop (jobs ++ rest)
released-front shop jobs rest front k low high is some is_front =
    admissible-start shop jobs rest k (release shop front (jobs_left shop.jobs jobs) k) low high is some
    (begins-release shop jobs front k low high is_front)

-- the release is at least the front
pub front-le-release : (shop : Shop) (front left : List ℕ) (k : ℕ) → 1 ≤ k →
    slice_index front (k - 1) ≤ release shop front left k
front-le-release shop front left k low =
    let here = range-le-greatest (λ from. slice_index front (from - 1)
    + least (map (λ job. time_between shop job from (k - 1)) left)) 1 (k + 1 - 1) k low (omega arith) in
    omega (arith, here)

pub front_of-is : (shop : Shop) (jobs : List ℕ) → IsFrontOf shop jobs (front_of shop jobs)
front_of-is shop jobs machine low high =
    get_or-map-range_with_len (completion shop jobs) 1 (shop.machines
    + 1 - 1) (machine - 1) machine 0 (omega arith) (omega arith)

-- the jobs behind a list, where a sequence extends it by at least one
module _ (shop : Shop) (jobs sequence : List ℕ) (is : IsSequence shop.jobs sequence) (extends : Extends sequence jobs)
    (short : length jobs < shop.jobs) where
  whole : IsSequence shop.jobs (jobs ++ extends.0)
  whole = subst (IsSequence shop.jobs) extends.1 is

  some : 0 < length extends.0
  some = omega (arith, whole.whole, length-append jobs extends.0)

  same-span : span shop sequence ≡ span shop (jobs ++ extends.0)
  same-span = ap (span shop) extends.1

pub bound_is_admissible : BoundIsAdmissible
bound_is_admissible shop jobs sequence machine low high is extends short =
    omega (
      arith,
      same-span shop jobs sequence is extends short,
      admissible-front shop jobs extends.0 (front_of shop jobs) machine low high
          (whole shop jobs sequence is extends short) (some shop jobs sequence is extends short)
          (front_of-is shop jobs),
    )

pub released_bound_is_admissible : ReleasedBoundIsAdmissible
released_bound_is_admissible shop jobs sequence machine low high is extends short =
    omega (
      arith,
      same-span shop jobs sequence is extends short,
      released-front shop jobs extends.0 (front_of shop jobs) machine low high
          (whole shop jobs sequence is extends short) (some shop jobs sequence is extends short)
          (front_of-is shop jobs),
    )

pub released_bound_is_stronger : ReleasedBoundIsStronger
released_bound_is_stronger shop jobs machine low =
    omega (arith, front-le-release shop (front_of shop jobs) (jobs_left shop.jobs jobs) machine low)
