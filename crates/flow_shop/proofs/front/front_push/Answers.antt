use Rattle.std.proofs.Common.{rules, ◌≡◌, ◌-◌, ◌≤◌, ◌+◌, ◌<◌, slice_index, length, arith, sym, ◌∙◌, ap}
use Rattle.std.proofs.Common.{◌≢◌, subst}
use Rattle.std.proofs.lemmas.Grind.{common_steps}
use Rattle.std.proofs.lemmas.List.{get_or-set_other}
use Rattle.flow_limits.specs.Limits.{greatest_completion}
use Rattle.flow_shop.specs.Shop.{time}
use Rattle.flow_shop.specs.Front.{IsFrontOf}
use Rattle.flow_shop.proofs.Recurrence.{after}
use Rattle.flow_shop.proofs.Fronts.{free_at, done-more, after-step, front-push}
use Rattle.flow_shop.proofs.front.front_push.Goals as goal

pub loop-machine-preserved : goal.loop-machine-preserved
loop-machine-preserved c =
    let within : c.loop-machine.machine - 1 < length c.loop-machine.front-inside.times = omega arith in
    let there : c.from.result ≡ time c.args.instance.now c.args.job c.loop-machine.machine = c.from.ensures
    ∙ c.time.ensures.value in
    let value = after-step c.args.instance.now c.front.inside.times c.loop-machine.front-inside.times c.args.job
    c.loop-machine.machine c.loop-machine.free c.from.result (c.max.result + c.from.result)
    (omega arith) c.loop-machine.invariant.free (c.loop-machine.invariant.others (c.loop-machine.machine - 1)
    (omega arith)) there (omega arith) in
    let old_small : slice_index c.front.inside.times (c.loop-machine.machine - 1) ≤ greatest_completion =
    rw c.front.view_is (c.requires.within (c.loop-machine.machine - 1) (omega arith)) in
    let next : c.loop-machine.machine + 1 - 1 ≡ c.loop-machine.machine = omega arith in
    record {
      end = search rules;
      free = value ∙ ap (after c.args.instance.now (free_at c.front.inside.times) c.args.job) (sym next);
      length = grind (arith, common_steps);
      small = omega (arith, c.loop-machine.invariant.others (c.loop-machine.machine - 1) (omega arith), old_small);
      done = done-more c.args.instance.now c.front.inside.times c.loop-machine.front-inside.times c.args.job
          c.loop-machine.machine (c.max.result
          + c.from.result) (omega arith) within value c.loop-machine.invariant.done;
      others = λ place high. let other : place ≢ c.loop-machine.machine - 1 = omega arith in
          rw get_or-set_other (c.loop-machine.invariant.others place (omega arith));
    }

pub returns-clause-front : goal.returns-clause-front
returns-clause-front c jobs front =
    let there = c.loop-machine.invariant in
    front-push c.args.instance.now jobs c.front.inside.times c.loop-machine.front-inside.times c.args.job
    (λ machine low high. there.done machine low (omega arith))
    (subst (IsFrontOf c.args.instance.now jobs) (sym c.front.view_is) front)
