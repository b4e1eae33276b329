use Rattle.std.proofs.Common.{◌≤◌, ◌+◌, ◌-◌}
use Rattle.flow_schedule.proofs.Rounds.{IsUnit}
use Rattle.flow_schedule.proofs.axis.round_up.Given as goal

-- the unit is a power of ten, and not beyond the number, but for the first
abbrev pub invariant-loop-unit : goal.invariant-loop-unit
invariant-loop-unit l = record {
  some : 1 ≤ l.unit;
  within : l.unit ≤ l.number + 1;
  power : IsUnit l.number l.unit;
}

-- how far the unit is below the makespan
abbrev pub decreases-loop-unit : goal.decreases-loop-unit
decreases-loop-unit l = l.number + 1 - l.unit
