use Rattle.std.proofs.Common.{◌-◌}
use Rattle.std.specs.List.{filter}
use Rattle.flow_shop.specs.Shop.{numbers}
use Rattle.flow_shop.specs.JobSet.{contains}
use Rattle.flow_shop.specs.TwoLeast.{AreTwoLeast, time_to}
use Rattle.flow_search.proofs.tails_and_lags.least_lags.Given as goal

-- the two least are those of the jobs so far that the set has
abbrev pub invariant-loop-job : goal.invariant-loop-job
invariant-loop-job l =
    AreTwoLeast (time_to l.setting.instance.now l.machine) (l.machine - 1) (filter (contains l.set) (numbers 1 (l.job -
    1))) l.lags
