use Rattle.std.proofs.Common.{arith}
use Rattle.flow_schedule.proofs.Rounds.{unit-more, step-one, step-two, step-five, step-ten}
use Rattle.flow_schedule.proofs.axis.round_up.Goals as goal

pub loop-unit-preserved : goal.loop-unit-preserved
loop-unit-preserved c = record {
  some = omega arith;
  within = omega arith;
  power = unit-more c.args.number c.loop-unit.unit c.loop-unit.invariant.power (omega arith);
}

pub returns-then-number-unit-clause-value : goal.returns-then-number-unit-clause-value
returns-then-number-unit-clause-value c =
    step-one c.args.number c.loop-unit.unit c.loop-unit.invariant.power (omega arith)

pub returns-then-number-unit-2-clause-value : goal.returns-then-number-unit-2-clause-value
returns-then-number-unit-2-clause-value c =
    step-two c.args.number c.loop-unit.unit c.loop-unit.invariant.power (omega arith) (omega arith)

pub returns-then-number-unit-3-clause-value : goal.returns-then-number-unit-3-clause-value
returns-then-number-unit-3-clause-value c =
    step-five c.args.number c.loop-unit.unit c.loop-unit.invariant.power (omega arith) (omega arith)

pub returns-else-number-unit-3-clause-value : goal.returns-else-number-unit-3-clause-value
returns-else-number-unit-3-clause-value c =
    step-ten c.args.number c.loop-unit.unit c.loop-unit.invariant.power (omega arith) (omega arith)
