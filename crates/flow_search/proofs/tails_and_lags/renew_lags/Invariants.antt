use Rattle.std.proofs.Common.{◌≡◌, ℕ, ◌-◌, ◌<◌, ◌≤◌, length, slice_index_or}
use Rattle.flow_limits.specs.Limits.{most_machines}
use Rattle.flow_shop.specs.JobSet.{members}
use Rattle.flow_shop.specs.TwoLeast.{AreTwoLeast, time_to}
use Rattle.flow_shop.specs.declared.least_pairs.LeastPairs.{LeastPairs}
use Rattle.flow_search.proofs.tails_and_lags.renew_lags.Given as goal

-- the lags to the machines so far
abbrev pub invariant-loop-machine : goal.invariant-loop-machine
invariant-loop-machine l = record {
  size : length l.lags ≡ most_machines;
  done : (k : ℕ) (other : LeastPairs) → 1 ≤ k → k < l.machine →
      AreTwoLeast (time_to l.setting.instance.now k) (k - 1) (members l.set) (slice_index_or l.lags (k - 1) other);
}
