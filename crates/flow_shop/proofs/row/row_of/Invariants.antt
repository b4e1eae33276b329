use Rattle.std.proofs.Common.{◌≡◌, ◌≤◌, ◌+◌, length}
use Rattle.flow_limits.specs.Limits.{most_machines}
use Rattle.flow_shop.specs.Shop.{time_between}
use Rattle.flow_shop.proofs.RowSteps.{Made}
use Rattle.flow_shop.proofs.row.row_of.Given as goal

abbrev pub invariant-loop-machine : goal.invariant-loop-machine
invariant-loop-machine l = record {
  within : l.machine ≤ l.instance.machines;
  times_length : length l.times ≡ most_machines;
  tails_length : length l.tails ≡ most_machines;
  behind : l.behind ≡ time_between l.instance l.job (l.machine + 1) l.instance.machines;
  made : Made l.instance l.job l.machine l.times l.tails;
}

abbrev pub decreases-loop-machine : goal.decreases-loop-machine
decreases-loop-machine l = l.machine
