-- A front after one more job.
use Rattle.std.proofs.Common.{◌≡◌, ℕ, zero, suc, ◌+◌, ◌-◌, ◌*◌, ◌<◌, ◌≤◌, max, List, [], ◌∷◌, ◌++◌, length, slice_index}
use Rattle.std.proofs.Common.{replicate, refl, ap, sym, ◌∙◌, arith}
use Rattle.std.proofs.Common.{inl, inr, ◌≢◌, set}
use Rattle.std.proofs.lemmas.Bool.{cases_lt}
use Rattle.std.proofs.lemmas.List.{get_or_past, get_or-set_other, get_or-set_same}
use Rattle.flow_limits.specs.Limits.{most_jobs, most_machines, greatest_time, greatest_completion}
use Rattle.flow_shop.specs.Shop.{Shop, time, time_between, IsWithinLimits}
use Rattle.flow_shop.specs.Paths.{completion}
use Rattle.flow_shop.specs.Front.{IsFrontOf, IsWithinFront}
use Rattle.flow_shop.proofs.Recurrence.{after, completed, completion-is, completion-after, after-same}
use Rattle.flow_shop.proofs.Recurrence.{time_between-none, time_between-first}

-- what a front says of a machine
abbrev pub free_at : List ℕ → ℕ → ℕ
free_at front machine = slice_index front (machine - 1)

pub zeros : (n i : ℕ) → slice_index (replicate n 0) i ≡ 0
zeros zero i = refl
zeros (suc n) zero = refl
zeros (suc n) (suc i) = zeros n i

pub zeros-small : (n i : ℕ) → slice_index (replicate n 0) i ≤ greatest_completion
zeros-small n i = omega (arith, zeros n i)

pub front-empty : (shop : Shop) (machine : ℕ) → slice_index (replicate most_machines 0) (machine - 1)
    ≡ completion shop [] machine
front-empty shop machine = zeros most_machines (machine - 1) ∙ sym (completion-is shop [] machine)

-- the front of a list and one more job give when the longer list leaves a machine
pub child-completion : (shop : Shop) (list front : List ℕ) (job machine : ℕ) → machine ≤ shop.machines →
    IsFrontOf shop list front → after shop (free_at front) job machine ≡ completion shop (list ++ job ∷ []) machine
child-completion shop list front job machine to is =
    after-same shop job (free_at front) (completed shop (λ _. 0) list) machine
    (λ k low high. is k low (omega (arith, high, to)) ∙ completion-is shop list k)
    ∙ sym (completion-after shop list job machine)

-- a front that has the recurrence's values is that of the longer list
pub front-push : (shop : Shop) (jobs old new : List ℕ) (job : ℕ) →
    ((machine : ℕ) → 1 ≤ machine → machine ≤ shop.machines →
    free_at new machine ≡ after shop (free_at old) job machine) → IsFrontOf shop jobs old →
    IsFrontOf shop (jobs ++ job ∷ []) new
front-push shop jobs old new job values front machine from to =
    values machine from to ∙ child-completion shop jobs old job machine to front

-- the time of any job on any machine is within the limit
pub time-small : (shop : Shop) (job machine : ℕ) → IsWithinLimits shop → time shop job machine ≤ greatest_time
time-small shop job machine limits =
    let place : ℕ = (machine - 1) * shop.jobs + (job - 1) in
    elim (cases_lt place (length shop.times)) [
      | inl within ↦ limits.times place 0 within
      | inr past ↦ let none : slice_index shop.times place ≡ 0 = get_or_past shop.times place 0 past in omega arith
    ]

-- the tail of a job behind a machine fits
pub tail-small : (shop : Shop) (job d machine : ℕ) → IsWithinLimits shop → shop.machines ≡ machine + d →
    time_between shop job (machine + 1) shop.machines ≤ d * greatest_time
tail-small shop job zero machine limits e =
    omega (arith, time_between-none shop job (machine + 1) shop.machines (omega (arith, e)))
tail-small shop job (suc d) machine limits e =
    let first = time_between-first shop job (machine + 1) shop.machines (omega (arith, e)) in
    let here = time-small shop job (machine + 1) limits in
    let rest = tail-small shop job d (machine + 1) limits (omega (arith, e)) in
    omega (arith, first, here, rest)

after-small : (shop : Shop) (free : ℕ → ℕ) (job n k : ℕ) → IsWithinLimits shop →
    ((i : ℕ) → free i ≤ (n + i) * greatest_time) → after shop free job k ≤ (n + 1 + k) * greatest_time
after-small shop free job n zero limits small = omega arith
after-small shop free job n (suc k) limits small =
    omega (arith, small (suc k), after-small shop free job n k limits small, time-small shop job (suc k) limits)

completed-small : (shop : Shop) (free : ℕ → ℕ) (jobs : List ℕ) (n k : ℕ) → IsWithinLimits shop →
    ((i : ℕ) → free i ≤ (n + i) * greatest_time) → completed shop free jobs k ≤ (n + length jobs + k) * greatest_time
completed-small shop free [] n k limits small = omega (arith, small k)
completed-small shop free (j ∷ js) n k limits small =
    let ih = completed-small shop (after shop free j) js (n
    + 1) k limits (λ i. after-small shop free j n i limits small) in
    omega (arith, ih)

-- a path has one step for each job and each machine
pub completion-small : (shop : Shop) (jobs : List ℕ) (machine : ℕ) → IsWithinLimits shop →
    completion shop jobs machine ≤ (length jobs + machine) * greatest_time
completion-small shop jobs machine limits =
    omega (
      arith,
      completion-is shop jobs machine,
      completed-small shop (λ _. 0) jobs 0 machine limits
          (λ i. omega arith),
    )

-- the front of a list that is no longer than a sequence
pub front-within : (shop : Shop) (jobs front : List ℕ) → IsWithinLimits shop → length jobs ≤ shop.jobs →
    IsFrontOf shop jobs front → IsWithinFront shop front
front-within shop jobs front limits short is_front place within =
    let here : slice_index front (place + 1 - 1) ≡ completion shop jobs (place + 1) =
    is_front (place + 1) (omega arith) (omega arith) in
    let same : slice_index front (place + 1 - 1) ≡ slice_index front place = ap (slice_index front) (omega arith) in
    let jobs_limit : shop.jobs ≤ most_jobs = limits.jobs in
    let machines_limit : shop.machines ≤ most_machines = limits.machines in
    omega (arith, here, same, completion-small shop jobs (place + 1) limits)

-- one more machine of a front
pub done-more : (shop : Shop) (old times : List ℕ) (job machine value : ℕ) → 1 ≤ machine → machine - 1 < length times →
    value ≡ after shop (free_at old) job machine →
    ((k : ℕ) → 1 ≤ k → k < machine → free_at times k ≡ after shop (free_at old) job k) → (k : ℕ) → 1 ≤ k →
    k < machine + 1 → free_at (set times (machine - 1) value) k ≡ after shop (free_at old) job k
done-more shop old times job machine value from within is done k low high =
    elim (cases_lt k machine) [
      | inl below ↦ let other : k - 1 ≢ machine - 1 = omega arith in rw get_or-set_other (done k low below)
      | inr here ↦
          let e : k ≡ machine = omega arith in
          ap (free_at (set times (machine - 1) value)) e ∙ get_or-set_same times (machine - 1) value 0 within ∙ is
          ∙ ap (after shop (free_at old) job) (sym e)
    ]

-- what the loop computes on a machine
pub after-step : (shop : Shop) (old times : List ℕ) (job machine free time_there value : ℕ) → 1 ≤ machine →
    free ≡ after shop (free_at old) job (machine - 1) → slice_index times (machine - 1)
    ≡ slice_index old (machine - 1) → time_there ≡ time shop job machine →
    value ≡ max (slice_index times (machine - 1)) free + time_there → value ≡ after shop (free_at old) job machine
after-step shop old times job zero free time_there value from before same there is = absurd (omega arith)
after-step shop old times job (suc machine) free time_there value from before same there is =
    let e : suc machine - 1 ≡ machine = omega arith in
    let b : after shop (free_at old) job (suc machine - 1) ≡ after shop (free_at old) job machine =
    ap (after shop (free_at old) job) e in
    omega (arith, is, there, same, before, b)
