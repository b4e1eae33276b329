use Rattle.std.proofs.Common.{◌+◌, ap, arith}
use Rattle.flow_shop.specs.JobSet.{members}
use Rattle.flow_bound.specs.Loads.{least_between}
use Rattle.flow_shop.specs.Bound.{released_bound}
use Rattle.flow_shop.proofs.Admissible.{released-front}
use Rattle.flow_bound.proofs.Steps.{left-admissible}
use Rattle.flow_bound.proofs.release.released_bound.Goals as goal

pub returns-clause-value : goal.returns-clause-value
returns-clause-value c =
    omega (
      arith,
      c.release_from_lags-release.ensures.value c.args.instance.now (members c.args.unscheduled.now)
          c.lags_of-lags.ensures,
      c.from.ensures,
      c.from-2.ensures,
      c.sum_of-sum.ensures,
      c.least_between-least_tail.ensures,
      ap (least_between c.args.instance.now (members c.args.unscheduled.now) (c.args.machine + 1))
          c.machines-machines.ensures.value,
    )

pub returns-clause-admissible : goal.returns-clause-admissible
returns-clause-admissible c scheduled sequence front left is extends =
    left-admissible c.args.instance.now scheduled sequence (members c.args.unscheduled.now)
    (λ jobs. released_bound c.args.instance.now c.args.front.now jobs c.args.machine)
    (c.release_from_lags-release.result + c.from.result + c.from-2.result)
    (λ rest whole more. released-front c.args.instance.now scheduled rest c.args.front.now c.args.machine
    c.requires.from c.requires.to whole more front)
    is extends c.requires.some left (returns-clause-value c)
