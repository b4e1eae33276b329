use Rattle.std.proofs.Common.{◌≡◌, ℕ, ◌+◌, ◌-◌, ◌<◌, ◌≤◌, length, arith, ap, ◌∙◌}
use Rattle.std.proofs.lemmas.List.{length-set}
use Rattle.flow_limits.specs.Limits.{most_machines}
use Rattle.flow_shop.specs.Shop.{time_between}
use Rattle.flow_shop.proofs.Recurrence.{time_between-first}
use Rattle.flow_shop.proofs.Fronts.{tail-small}
use Rattle.flow_shop.proofs.RowSteps.{made-more}
use Rattle.flow_shop.proofs.row.row_of.Goals as goal

pub overflow_add-behind : goal.overflow_add-behind
overflow_add-behind c =
    let d : ℕ = c.args.instance.now.machines - c.loop-machine.machine in
    let small = tail-small c.args.instance.now c.args.job d c.loop-machine.machine c.machines-machine.ensures.limits
    (omega (arith, c.loop-machine.invariant.within)) in
    let most : c.args.instance.now.machines ≤ most_machines = c.machines-machine.ensures.limits.machines in
    omega (arith, small, most, c.loop-machine.invariant.behind, c.time-time.ensures.limit)

pub loop-machine-preserved : goal.loop-machine-preserved
loop-machine-preserved c =
    let low : 1 ≤ c.loop-machine.machine = omega (arith, c.loop-machine-test.true) in
    let within : c.loop-machine.machine ≤ c.args.instance.now.machines = c.loop-machine.invariant.within in
    let most : c.args.instance.now.machines ≤ most_machines = c.machines-machine.ensures.limits.machines in
    let in_times : c.loop-machine.machine - 1 < length c.loop-machine.times =
    omega (arith, most, within, low, c.loop-machine.invariant.times_length) in
    let in_tails : c.loop-machine.machine - 1 < length c.loop-machine.tails =
    omega (arith, most, within, low, c.loop-machine.invariant.tails_length) in
    let first = time_between-first c.args.instance.now c.args.job c.loop-machine.machine c.args.instance.now.machines
    within in
    let same : time_between c.args.instance.now c.args.job (c.loop-machine.machine - 1 + 1) c.args.instance.now.machines
    ≡ time_between c.args.instance.now c.args.job c.loop-machine.machine c.args.instance.now.machines =
    ap (λ m. time_between c.args.instance.now c.args.job m c.args.instance.now.machines) (omega (arith, low)) in
    record {
      within = omega (arith, within);
      times_length = length-set c.loop-machine.times (c.loop-machine.machine - 1) c.time-time.result
          ∙ c.loop-machine.invariant.times_length;
      tails_length = length-set c.loop-machine.tails (c.loop-machine.machine - 1) c.loop-machine.behind
          ∙ c.loop-machine.invariant.tails_length;
      behind = omega (arith, first, same, c.loop-machine.invariant.behind, c.time-time.ensures.value);
      made = made-more c.args.instance.now c.args.job c.loop-machine.machine c.time-time.result c.loop-machine.behind
          c.loop-machine.times c.loop-machine.tails
          low in_times in_tails c.time-time.ensures.value c.loop-machine.invariant.behind c.loop-machine.invariant.made;
    }
