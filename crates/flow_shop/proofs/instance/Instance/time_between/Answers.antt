use Rattle.std.proofs.Common.{◌≡◌, ℕ, ◌-◌, sym, ap, ◌∙◌, arith}
use Rattle.flow_shop.specs.Shop.{time_between}
use Rattle.flow_shop.proofs.Recurrence.{time_between-none}
use Rattle.flow_shop.proofs.Times.{time_between-step, time_between-small}
use Rattle.flow_shop.proofs.instance.Instance.time_between.Goals as goal

pub loop-machine-init : goal.loop-machine-init
loop-machine-init c =
    let first = c.args.first in
    sym (time_between-none c.args.self.now c.args.job first (first - 1) (omega arith))

pub overflow_add-time : goal.overflow_add-time
overflow_add-time c =
    let limits = c.machines.ensures.limits in
    let last : ℕ = c.loop-machine.machine - 1 in
    omega (
      arith,
      c.loop-machine.invariant,
      limits.machines,
      time_between-small c.args.self.now c.args.job c.args.first last c.requires.from limits,
      c.time-time.ensures.limit,
    )

pub loop-machine-preserved : goal.loop-machine-preserved
loop-machine-preserved c =
    let machine = c.loop-machine.machine in
    omega (
      arith,
      c.loop-machine.invariant,
      c.time-time.ensures.value,
      time_between-step c.args.self.now c.args.job c.args.first machine c.requires.from (omega arith),
    )

pub returns : goal.returns
returns c =
    let last : c.loop-machine.machine - 1 ≡ c.args.last = omega arith in
    c.loop-machine.invariant ∙ ap (time_between c.args.self.now c.args.job c.args.first) last
