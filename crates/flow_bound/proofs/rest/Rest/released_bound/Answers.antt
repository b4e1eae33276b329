use Rattle.std.proofs.Common.{◌+◌, ◌≤◌, refl, arith}
use Rattle.flow_shop.specs.Sequences.{jobs_left}
use Rattle.flow_shop.specs.Bound.{released_bound}
use Rattle.flow_shop.proofs.Admissible.{released-front}
use Rattle.flow_bound.proofs.Steps.{left-admissible}
use Rattle.flow_bound.proofs.rest.Rest.released_bound.Goals as goal

pub returns-clause-value : goal.returns-clause-value
returns-clause-value c shop jobs rest =
    let high : c.args.machine ≤ shop.machines = omega (arith, c.requires.to, rest.loads_are.machines_are) in
    omega (
      arith,
      c.release_from_lags-release.ensures.value shop jobs (rest.lags_are c.args.machine c.requires.from high),
      c.sum.ensures,
      c.tail.ensures,
      c.from.ensures,
      c.from-2.ensures,
      rest.loads_are.sums_are c.args.machine c.requires.from high,
      rest.loads_are.tails_are c.args.machine c.requires.from high,
    )

pub returns-clause-admissible : goal.returns-clause-admissible
returns-clause-admissible c shop scheduled sequence rest some front is extends =
    let high : c.args.machine ≤ shop.machines = omega (arith, c.requires.to, rest.loads_are.machines_are) in
    left-admissible shop scheduled sequence (jobs_left shop.jobs scheduled)
    (λ jobs. released_bound shop c.args.front.now jobs c.args.machine)
    (c.release_from_lags-release.result + (c.from.result + c.from-2.result))
    (λ behind whole more.
    released-front shop scheduled behind c.args.front.now c.args.machine c.requires.from high whole more front)
    is extends some refl (returns-clause-value c shop (jobs_left shop.jobs scheduled) rest)
