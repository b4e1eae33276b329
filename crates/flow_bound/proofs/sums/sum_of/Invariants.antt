use Rattle.std.proofs.Common.{◌≡◌, ◌-◌, ◌*◌, ◌≤◌}
use Rattle.flow_limits.specs.Limits.{greatest_time}
use Rattle.flow_shop.specs.Shop.{time}
use Rattle.flow_shop.specs.JobSet.{contains}
use Rattle.flow_shop.proofs.JobsLeft.{kept}
use Rattle.flow_bound.proofs.sums.sum_of.Given as goal

-- the sum is that of the jobs so far that the set has
abbrev pub invariant-loop-job : goal.invariant-loop-job
invariant-loop-job l = record {
  is : l.sum ≡ kept (λ job. time l.instance job l.machine) (contains l.set) (l.job - 1);
  small : l.sum ≤ (l.job - 1) * greatest_time;
}
