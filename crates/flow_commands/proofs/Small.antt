-- The makespan of an instance fits a number of a text.
use Rattle.std.proofs.Common.{arith, ◌≤◌, ◌+◌, ◌*◌, ℕ, List, length, Fits, w32}
use Rattle.flow_core.specs.Limits.{most_jobs, most_machines, greatest_time}
use Rattle.flow_core.specs.Shop.{Shop, IsWithinLimits}
use Rattle.flow_core.specs.Paths.{span}
use Rattle.flow_core.specs.Sequences.{IsSequence}
use Rattle.flow_core.proofs.Fronts.{completion-small}

pub at-most-span-fits : (shop : Shop) (jobs : List ℕ) (value : ℕ) → IsWithinLimits shop → IsSequence shop.jobs jobs →
    value ≤ span shop jobs → Fits w32 value
at-most-span-fits shop jobs value limits is below =
    let few : shop.jobs ≤ most_jobs = limits.jobs in
    let short : shop.machines ≤ most_machines = limits.machines in
    let small : span shop jobs ≤ (length jobs + shop.machines) * greatest_time =
    completion-small shop jobs shop.machines limits in
    omega (arith, few, short, small, below, is.whole)
