use Rattle.std.proofs.Common.{◌≡◌, ℕ, [], ◌-◌, ◌<◌, ◌≤◌, length, slice_index_or}
use Rattle.flow_limits.specs.Limits.{most_machines}
use Rattle.flow_shop.specs.JobSet.{members}
use Rattle.flow_bound.specs.Rest.{AreLags}
use Rattle.flow_bound.proofs.rest.Rest.step.Given as goal

-- the lags to the machines so far
abbrev pub invariant-loop-machine : goal.invariant-loop-machine
invariant-loop-machine l = record {
  size : length l.lags ≡ most_machines;
  are : (k : ℕ) → 1 ≤ k → k < l.machine →
      AreLags l.instance (members l.after) k (slice_index_or l.lags (k - 1) []);
}
