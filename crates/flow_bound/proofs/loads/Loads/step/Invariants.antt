use Rattle.std.proofs.Common.{◌≡◌, ℕ, ◌+◌, ◌-◌, ◌<◌, ◌≤◌, length, slice_index}
use Rattle.std.specs.List.{sum_by}
use Rattle.flow_limits.specs.Limits.{most_machines}
use Rattle.flow_shop.specs.Shop.{time, time_between}
use Rattle.flow_shop.specs.JobSet.{members}
use Rattle.flow_bound.specs.Loads.{least_tail}
use Rattle.flow_bound.proofs.loads.Loads.step.Given as goal

-- the sums and the least tails of the machines so far
abbrev pub invariant-loop-machine : goal.invariant-loop-machine
invariant-loop-machine l = record {
  machines_are : l.machines ≡ l.instance.machines;
  within : l.machine ≤ l.instance.machines;
  sums_size : length l.sums ≡ most_machines;
  tails_size : length l.tails ≡ most_machines;
  behind_is : l.behind ≡ time_between l.instance l.job (l.machine + 1) l.instance.machines;
  sums_are : (k : ℕ) → l.machine < k → k ≤ l.instance.machines →
      slice_index l.sums (k - 1) ≡ sum_by (λ job. time l.instance job k) (members l.after);
  tails_are : (k : ℕ) → l.machine < k → k ≤ l.instance.machines →
      slice_index l.tails (k - 1) ≡ least_tail l.instance (members l.after) k;
}

abbrev pub decreases-loop-machine : goal.decreases-loop-machine
decreases-loop-machine l = l.machine
