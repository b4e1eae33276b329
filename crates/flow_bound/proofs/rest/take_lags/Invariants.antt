use Rattle.std.proofs.Common.{◌≡◌, ℕ, ◌+◌, ◌-◌, ◌<◌, ◌≤◌, min, length, slice_index}
use Rattle.flow_limits.specs.Limits.{most_machines}
use Rattle.flow_shop.specs.Shop.{time_between}
use Rattle.flow_bound.proofs.rest.take_lags.Given as goal

-- the lags from the machines so far have the job, and the others not yet
abbrev pub invariant-loop-from : goal.invariant-loop-from
invariant-loop-from l = record {
  within : l.from ≤ l.machine - 1;
  size : length l.lags ≡ most_machines;
  ahead_is : l.ahead ≡ time_between l.instance l.job (l.from + 1) (l.machine - 1);
  are : (k : ℕ) → l.from < k → k ≤ l.machine - 1 → slice_index l.lags (k - 1)
      ≡ min (slice_index l.fn.lags (k - 1)) (time_between l.instance l.job k (l.machine - 1));
  stay : (k : ℕ) → 1 ≤ k → k ≤ l.from → slice_index l.lags (k - 1) ≡ slice_index l.fn.lags (k - 1);
}

abbrev pub decreases-loop-from : goal.decreases-loop-from
decreases-loop-from l = l.from
