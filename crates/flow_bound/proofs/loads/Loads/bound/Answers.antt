use Rattle.std.proofs.Common.{◌≡◌, ◌+◌, ◌-◌, ◌≤◌, slice_index, refl, ap, arith}
use Rattle.flow_shop.specs.Sequences.{jobs_left}
use Rattle.flow_shop.specs.Bound.{machine_bound}
use Rattle.flow_shop.proofs.Admissible.{admissible-front}
use Rattle.flow_bound.proofs.Steps.{left-admissible}
use Rattle.flow_bound.proofs.loads.Loads.bound.Goals as goal

pub returns-clause-value : goal.returns-clause-value
returns-clause-value c shop jobs rest =
    let high : c.args.machine ≤ shop.machines = omega (arith, c.requires.to, rest.machines_are) in
    let sums : slice_index c.self.inside.sums (c.args.machine - 1)
    ≡ slice_index c.args.self.now.sums (c.args.machine - 1) =
    ap (λ o. slice_index o.sums (c.args.machine - 1)) c.self.view_is in
    let tails : slice_index c.self.inside.tails (c.args.machine - 1)
    ≡ slice_index c.args.self.now.tails (c.args.machine - 1) =
    ap (λ o. slice_index o.tails (c.args.machine - 1)) c.self.view_is in
    omega (
      arith,
      c.at.ensures,
      c.from.ensures,
      c.from-2.ensures,
      sums,
      tails,
      rest.sums_are c.args.machine c.requires.from high,
      rest.tails_are c.args.machine c.requires.from high,
    )

pub returns-clause-admissible : goal.returns-clause-admissible
returns-clause-admissible c shop scheduled sequence rest some front is extends =
    let high : c.args.machine ≤ shop.machines = omega (arith, c.requires.to, rest.machines_are) in
    left-admissible shop scheduled sequence (jobs_left shop.jobs scheduled)
    (λ jobs. machine_bound shop c.args.front.now jobs c.args.machine)
    (c.at.result + (c.from.result + c.from-2.result))
    (λ behind whole more.
    admissible-front shop scheduled behind c.args.front.now c.args.machine c.requires.from high whole more front)
    is extends some refl (returns-clause-value c shop (jobs_left shop.jobs scheduled) rest)
