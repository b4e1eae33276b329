use Rattle.std.proofs.Common.{◌≡◌, ℕ, ◌≤◌, ◌+◌, ◌-◌, ◌∙◌, max, slice_index, arith}
use Rattle.std.proofs.lemmas.Grind.{common_steps}
use Rattle.flow_shop.specs.Ends.{end_bound_at}
use Rattle.flow_shop.proofs.Ranges.{greatest-step}
use Rattle.flow_nodes.proofs.KeptNodes.{node-small, end-bound-is}
use Rattle.flow_nodes.proofs.node.Node.bound.Goals as goal

pub overflow_add-self : goal.overflow_add-self
overflow_add-self c =
    let high : c.loop-machine.machine ≤ c.args.instance.now.machines =
    omega (arith, c.loop-machine-test.true, c.machines-machines.ensures.value) in
    let fits = node-small c.args.instance.now c.requires.0 c.requires.1 c.args.self.now c.loop-machine.machine
    c.requires.2 (omega arith) high in
    omega (arith, fits.front, fits.work)

pub overflow_add-self-in-loop-machine : goal.overflow_add-self-in-loop-machine
overflow_add-self-in-loop-machine c =
    let high : c.loop-machine.machine ≤ c.args.instance.now.machines =
    omega (arith, c.loop-machine-test.true, c.machines-machines.ensures.value) in
    let fits = node-small c.args.instance.now c.requires.0 c.requires.1 c.args.self.now c.loop-machine.machine
    c.requires.2 (omega arith) high in
    omega (arith, fits.front, fits.work, fits.back)

pub loop-machine-preserved : goal.loop-machine-preserved
loop-machine-preserved c first last is =
    let high : c.loop-machine.machine ≤ c.args.instance.now.machines =
    omega (arith, c.loop-machine-test.true, c.machines-machines.ensures.value) in
    let low : 1 ≤ c.loop-machine.machine = omega arith in
    let place : ℕ = c.loop-machine.machine - 1 in
    let most : c.max-greatest.result ≡ max c.loop-machine.greatest (slice_index c.args.self.now.front place
    + slice_index c.args.self.now.work place + slice_index c.args.self.now.back place) =
    grind (arith, common_steps, c.max-greatest.ensures) in
    omega (
      arith,
      most,
      greatest-step (end_bound_at c.args.instance.now first last) c.loop-machine.machine low,
      c.loop-machine.invariant first last is,
      is.fronts c.loop-machine.machine low high,
      is.works c.loop-machine.machine low high,
      is.backs c.loop-machine.machine low high,
    )

pub returns : goal.returns
returns c first last is =
    c.loop-machine.invariant first last is
    ∙ end-bound-is c.args.instance.now first last (c.loop-machine.machine - 1)
    (omega (arith, c.loop-machine-test.false, c.machines-machines.ensures.value))
