use Rattle.std.proofs.Common.{◌≡◌, ℕ, ◌-◌, ◌<◌, ◌≤◌, length, slice_index}
use Rattle.flow_limits.specs.Limits.{most_machines}
use Rattle.flow_shop.specs.Shop.{time_between}
use Rattle.flow_shop.specs.JobSet.{contains}
use Rattle.flow_bound.proofs.Rests.{least_kept}
use Rattle.flow_bound.proofs.rest.lags_of.Given as goal

-- the lags of the jobs so far that the set has
abbrev pub invariant-loop-job : goal.invariant-loop-job
invariant-loop-job l = record {
  size : length l.lags ≡ most_machines;
  are : (from : ℕ) → 1 ≤ from → from < l.machine → slice_index l.lags (from - 1)
      ≡ least_kept 4294967295 (λ job. time_between l.instance job from (l.machine - 1)) (contains l.set) (l.job - 1);
}
