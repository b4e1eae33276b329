-- The makespan of a list with a job between two others is that of a front and tails.
use Rattle.std.proofs.Common.{◌≡◌, ℕ, ◌+◌, ◌-◌, ◌<◌, ◌≤◌, List, [], ◌∷◌, ◌++◌, length, drop, map}
use Rattle.std.proofs.Common.{slice_index, replicate, refl, ap, sym, ◌∙◌, inl, inr, arith}
use Rattle.std.proofs.lemmas.Bool.{cases_lt}
use Rattle.std.proofs.lemmas.List.{drop_all}
use Rattle.flow_limits.specs.Limits.{most_jobs, most_machines}
use Rattle.flow_shop.specs.Shop.{Shop, numbers, IsWithinLimits}
use Rattle.flow_shop.specs.Least.{greatest}
use Rattle.flow_shop.specs.Paths.{completion, span}
use Rattle.flow_shop.specs.Front.{IsFrontOf, IsWithinFront}
use Rattle.flow_shop.proofs.Extremes.{range-le-greatest, greatest-range-le}
use Rattle.flow_shop.proofs.Recurrence.{after, completed, completion-is, completion-after}
use Rattle.flow_shop.proofs.Recurrence.{weight-le-completed, completed-attained}
use Rattle.flow_shop.proofs.Recurrence.{path-up, completed-zero}
use Rattle.flow_shop.proofs.Admissible.{completed-append, after-later}
use Rattle.flow_shop.proofs.Fronts.{child-completion, free_at, completion-small, zeros}
use Rattle.flow_shop.proofs.Ranges.{greatest-same}
use Rattle.flow_shop.specs.Ends.{path_tail}
use Rattle.flow_shop.proofs.PathTails.{weight-le-tail, tail-below, tail-none}
use Rattle.flow_bound.specs.Insertion.{SpanIsOfFrontsAndTails}
use Rattle.flow_bound.specs.internal.Tails.{AreTails}
use Rattle.flow_bound.proofs.MachineLoads.{completed-grows}

-- if each machine is free at its time, the jobs behind take their tail
free-and-tail : (shop : Shop) (free : ℕ → ℕ) (jobs : List ℕ) (machine : ℕ) → 1 ≤ machine →
    free machine ≤ completed shop free jobs shop.machines → free machine + path_tail shop jobs machine
    ≤ completed shop free jobs shop.machines
free-and-tail shop free jobs machine low before =
    let behind = tail-below shop jobs machine (completed shop free jobs shop.machines - free machine)
    (λ machines e path. omega (arith, weight-le-completed shop free jobs machines machine shop.machines low e path)) in
    omega (arith, before, behind)

-- a job's completion time on a machine comes before the end
completion-before : (shop : Shop) (free : ℕ → ℕ) (job : ℕ) (jobs : List ℕ) (machine : ℕ) → machine ≤ shop.machines →
    1 ≤ shop.machines → after shop free job machine ≤ completed shop (after shop free job) jobs shop.machines
completion-before shop free job jobs machine high some =
    omega (
      arith,
      after-later shop free job machine shop.machines high,
      completed-grows shop
          (after shop free job) jobs shop.machines some,
    )

-- the end is the greatest sum of the job's completion time and a tail
end-is-greatest : (shop : Shop) (free leaves : ℕ → ℕ) (job : ℕ) (jobs : List ℕ) →
    ((machine : ℕ) → leaves machine ≡ after shop free job machine) →
    completed shop (after shop free job) jobs shop.machines
    ≡ greatest (map (λ machine. leaves machine + path_tail shop jobs machine) (numbers 1 shop.machines))
end-is-greatest shop free leaves job jobs same =
    elim (cases_lt 0 shop.machines) [
      | inl some ↦
          let path = completed-attained shop (after shop free job) jobs shop.machines some in
          let high : path.0 ≤ shop.machines = path-up path.1 path.0 shop.machines path.4 in
          let heavy = weight-le-tail shop jobs path.1 path.0 path.3 path.4 in
          let above = range-le-greatest value 1 (shop.machines + 1 - 1) path.0 path.2 (omega (arith, high)) in
          let below = greatest-range-le value 1 (shop.machines
          + 1 - 1) (completed shop (after shop free job) jobs shop.machines)
          (λ machine low top. omega (
            arith,
            same machine,
            free-and-tail shop (after shop free job) jobs machine low
                (completion-before shop free job jobs machine (omega arith) some),
          )) in
          omega (arith, above, below, heavy, path.5, same path.0)
      | inr none ↦
          let e : shop.machines ≡ 0 = omega arith in
          ap (completed shop (after shop free job) jobs) e
          ∙ completed-zero shop (after shop free job) jobs refl
          ∙ sym (ap (λ last. greatest (map value (numbers 1 last))) e)
    ]
  where
    value : ℕ → ℕ
    value machine = leaves machine + path_tail shop jobs machine

pub span-is-of-fronts-and-tails : SpanIsOfFrontsAndTails
span-is-of-fronts-and-tails shop before behind job =
    completion-is shop (before ++ job ∷ behind) shop.machines
    ∙ ap (λ free. free shop.machines) (completed-append shop (λ _. 0) before (job ∷ behind))
    ∙ end-is-greatest shop (completed shop (λ _. 0) before) (completion shop (before ++ job
    ∷ [])) job behind (completion-after shop before job)

-- a tail is no longer than the makespan with a job before it
tail-le-span : (shop : Shop) (jobs : List ℕ) (machine : ℕ) → 1 ≤ machine → machine ≤ shop.machines →
    path_tail shop jobs machine ≤ span shop (0 ∷ jobs)
tail-le-span shop jobs machine low high =
    omega (
      arith,
      completion-is shop (0 ∷ jobs) shop.machines,
      free-and-tail shop (after shop (λ _. 0) 0) jobs machine low (completion-before shop (λ _. 0) 0 jobs machine high
          (omega arith)),
    )

-- the tails of a list that is shorter than a sequence
pub tails-within : (shop : Shop) (jobs tails : List ℕ) → IsWithinLimits shop → length jobs < shop.jobs →
    AreTails shop jobs tails → IsWithinFront shop tails
tails-within shop jobs tails limits short are place within =
    let here : slice_index tails (place + 1 - 1) ≡ path_tail shop jobs (place + 1) =
    are (place + 1) (omega arith) (omega arith) in
    let same : slice_index tails (place + 1 - 1) ≡ slice_index tails place = ap (slice_index tails) (omega arith) in
    let jobs_limit : shop.jobs ≤ most_jobs = limits.jobs in
    let machines_limit : shop.machines ≤ most_machines = limits.machines in
    omega (
      arith,
      here,
      same,
      tail-le-span shop jobs (place + 1) (omega arith) (omega arith),
      completion-small shop (0 ∷ jobs) shop.machines limits,
    )

-- the makespan from the front of the jobs before and the tails of those behind
pub between-is : (shop : Shop) (before behind front tails : List ℕ) (job most : ℕ) → IsFrontOf shop before front →
    AreTails shop behind tails →
    most ≡ greatest (map (λ machine. after shop (free_at front) job machine
    + free_at tails machine) (numbers 1 shop.machines)) →
    most ≡ span shop (before ++ job ∷ behind)
between-is shop before behind front tails job most is_front are_tails is =
    let agree = greatest-same given wanted shop.machines same in
    let law = span-is-of-fronts-and-tails shop before behind job in
    omega (arith, is, agree, law)
  where
    given : ℕ → ℕ
    given machine = after shop (free_at front) job machine + free_at tails machine

    wanted : ℕ → ℕ
    wanted machine = completion shop (before ++ job ∷ []) machine + path_tail shop behind machine

    same : (machine : ℕ) → 1 ≤ machine → machine ≤ shop.machines → given machine ≡ wanted machine
    same machine low high =
        omega (arith, child-completion shop before front job machine high is_front, are_tails machine low high)

-- behind the last job there is no tail
pub tails-end : (shop : Shop) (jobs : List ℕ) (place : ℕ) → length jobs ≤ place →
    AreTails shop (drop place jobs) (replicate most_machines 0)
tails-end shop jobs place past machine low high =
    zeros most_machines (machine - 1) ∙ sym (tail-none shop machine)
    ∙ sym (ap (λ js. path_tail shop js machine) (drop_all place jobs past))
