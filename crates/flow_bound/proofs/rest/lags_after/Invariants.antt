use Rattle.std.proofs.Common.{◌≡◌, ℕ, ◌+◌, ◌-◌, ◌<◌, ◌≤◌, length, slice_index}
use Rattle.flow_limits.specs.Limits.{most_machines}
use Rattle.flow_shop.specs.Shop.{time_between}
use Rattle.flow_shop.specs.JobSet.{members}
use Rattle.flow_bound.specs.Loads.{least_between}
use Rattle.flow_bound.proofs.rest.lags_after.Given as goal

-- the lags from the machines so far
abbrev pub invariant-loop-from : goal.invariant-loop-from
invariant-loop-from l = record {
  within : l.from ≤ l.machine - 1;
  size : length l.new_lags ≡ most_machines;
  ahead_is : l.ahead ≡ time_between l.instance l.job (l.from + 1) (l.machine - 1);
  are : (k : ℕ) → l.from < k → k ≤ l.machine - 1 →
      slice_index l.new_lags (k - 1) ≡ least_between l.instance (members l.after) k (l.machine - 1);
}

abbrev pub decreases-loop-from : goal.decreases-loop-from
decreases-loop-from l = l.from
