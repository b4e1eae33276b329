use Rattle.std.proofs.Common.{◌≡◌, ◌-◌}
use Rattle.flow_shop.specs.Shop.{time_between}
use Rattle.flow_shop.specs.JobSet.{contains}
use Rattle.flow_bound.proofs.Rests.{least_kept}
use Rattle.flow_bound.proofs.least.least_between.Given as goal

-- the least is that of the jobs so far that the set has
abbrev pub invariant-loop-job : goal.invariant-loop-job
invariant-loop-job l =
    l.least ≡ least_kept 4294967295 (λ job. time_between l.instance job l.first l.last) (contains l.set) (l.job - 1)
