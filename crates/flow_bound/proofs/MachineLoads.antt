-- No sequence has a smaller makespan than Taillard's lower bound.
use Rattle.std.proofs.Common.{◌≡◌, ℕ, ◌+◌, ◌-◌, ◌≤◌, List, [], ◌∷◌, ◌++◌, map, ap, sym, ◌∙◌, subst, inl, inr, arith}
use Rattle.std.proofs.Common.{true, ◌||◌}
use Rattle.std.proofs.lemmas.Bool.{false≢true}
use Rattle.std.proofs.lemmas.Bool.Decides.{eqb_tells}
use Rattle.std.proofs.lemmas.List.{append-nil}
use Rattle.flow_shop.specs.Shop.{Shop, numbers, time, time_between, IsWithinLimits}
use Rattle.flow_shop.specs.Least.{greatest}
use Rattle.flow_shop.specs.Paths.{span}
use Rattle.flow_shop.specs.Sequences.{has, IsSequence}
use Rattle.flow_shop.proofs.EndBounds.{admissible-parts, end_bound_at_most}
use Rattle.flow_shop.proofs.Extremes.{greatest-range-le}
use Rattle.flow_shop.proofs.JobsLeft.{sequence-has, sum_by-jobs_left}
use Rattle.flow_shop.proofs.LeastFound.{in-order}
use Rattle.flow_shop.proofs.Recurrence.{after, completed, completion-is}
use Rattle.flow_shop.proofs.Admissible.{after-here, after-later}
use Rattle.flow_bound.specs.Totals.{total}
use Rattle.flow_bound.specs.Taillard.{machine_load, taillard_bound}

-- a machine is never free earlier for more jobs
pub completed-grows : (shop : Shop) (free : ℕ → ℕ) (jobs : List ℕ) (machine : ℕ) → 1 ≤ machine →
    free machine ≤ completed shop free jobs machine
completed-grows shop free [] machine low = omega arith
completed-grows shop free (j ∷ js) machine low =
    omega (arith, after-here shop free j machine low, completed-grows shop (after shop free j) js machine low)

total-below : (shop : Shop) (free : ℕ → ℕ) (jobs : List ℕ) (job machine : ℕ) → 1 ≤ machine → has jobs job ≡ true →
    time_between shop job 1 machine ≤ completed shop free jobs machine
total-below shop free [] job machine low h = absurd (false≢true h)
total-below shop free (j ∷ js) job machine low h =
    elim (eqb_tells job j) [
      | inl same ↦
          let e : time_between shop job 1 machine ≡ time_between shop j 1 machine =
          ap (λ k. time_between shop k 1 machine) same.1 in
          let here : after shop free j 0 + time_between shop j 1 machine ≤ after shop free j machine =
          after-later shop free j 0 machine (omega arith) in
          omega (arith, e, here, completed-grows shop (after shop free j) js machine low)
      | inr other ↦ total-below shop (after shop free j) js job machine low (sym (ap (λ b. b || has js job) other.0)
          ∙ h)
    ]

-- a machine's load is its bound where no job is put at either end
load-below : (shop : Shop) (jobs : List ℕ) (machine : ℕ) → 1 ≤ machine → machine ≤ shop.machines →
    IsSequence shop.jobs jobs → machine_load shop machine ≤ span shop jobs
load-below shop jobs machine low high is =
    let whole : IsSequence shop.jobs (jobs ++ []) = subst (IsSequence shop.jobs) (sym (append-nil jobs)) is in
    omega (
      arith,
      sum_by-jobs_left (λ job. time shop job machine) shop.jobs [] (numbers 1 shop.jobs) (in-order shop.jobs),
      end_bound_at_most shop [] [] machine low high,
      admissible-parts shop [] jobs [] whole,
      ap (span shop) (append-nil jobs),
    )

pub taillard-below : (shop : Shop) (sequence : List ℕ) → IsWithinLimits shop → IsSequence shop.jobs sequence →
    taillard_bound shop ≤ span shop sequence
taillard-below shop sequence limits is =
    let some : 1 ≤ shop.machines = limits.some_machine in
    let loads : greatest (map (machine_load shop) (numbers 1 shop.machines)) ≤ span shop sequence =
    greatest-range-le (machine_load shop) 1 (shop.machines + 1 - 1) (span shop sequence)
    (λ machine low high. load-below shop sequence machine low (omega arith) is) in
    let totals : greatest (map (total shop) (numbers 1 shop.jobs)) ≤ span shop sequence =
    greatest-range-le (total shop) 1 (shop.jobs + 1 - 1) (span shop sequence)
    (λ job low high. omega (
      arith,
      total-below shop (λ _. 0) sequence job shop.machines some
          (sequence-has shop.jobs sequence is job low (omega arith)),
      completion-is shop sequence shop.machines,
    )) in
    omega (arith, loads, totals)
