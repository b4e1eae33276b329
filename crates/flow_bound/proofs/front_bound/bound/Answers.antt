use Rattle.std.proofs.Common.{◌+◌, ◌-◌, ◌≤◌, slice_index, ap, arith}
use Rattle.flow_limits.specs.Limits.{greatest_completion}
use Rattle.flow_shop.specs.JobSet.{members}
use Rattle.flow_bound.specs.Loads.{least_between}
use Rattle.flow_shop.specs.Bound.{machine_bound}
use Rattle.flow_shop.proofs.Admissible.{admissible-front}
use Rattle.flow_bound.proofs.Steps.{left-admissible}
use Rattle.flow_bound.proofs.front_bound.bound.Goals as goal

pub overflow_add-result : goal.overflow_add-result
overflow_add-result c =
    let front : slice_index c.args.front.now (c.args.machine - 1) ≤ greatest_completion =
    c.requires.within (c.args.machine - 1) (omega arith) in
    omega (arith, front, c.at.ensures, c.from.ensures)

pub overflow_add-result-2 : goal.overflow_add-result-2
overflow_add-result-2 c =
    let front : slice_index c.args.front.now (c.args.machine - 1) ≤ greatest_completion =
    c.requires.within (c.args.machine - 1) (omega arith) in
    omega (arith, front, c.at.ensures, c.from.ensures, c.from-2.ensures)

pub returns-clause-value : goal.returns-clause-value
returns-clause-value c =
    omega (
      arith,
      c.at.ensures,
      c.from.ensures,
      c.from-2.ensures,
      c.sum_of-sum.ensures,
      c.least_between-least_tail.ensures,
      ap (least_between c.args.instance.now (members c.args.unscheduled.now) (c.args.machine + 1))
          c.machines-machines.ensures.value,
    )

pub returns-clause-admissible : goal.returns-clause-admissible
returns-clause-admissible c scheduled sequence front left is extends =
    left-admissible c.args.instance.now scheduled sequence (members c.args.unscheduled.now)
    (λ jobs. machine_bound c.args.instance.now c.args.front.now jobs c.args.machine)
    (c.at.result + c.from.result + c.from-2.result)
    (λ rest whole more. admissible-front c.args.instance.now scheduled rest c.args.front.now c.args.machine
    c.requires.from c.requires.to whole more front)
    is extends c.requires.some left (returns-clause-value c)
