use Rattle.std.proofs.Common.{rules, ◌≡◌, ◌-◌, ◌≤◌, ◌+◌, ◌<◌, slice_index, length, arith, sym, ◌∙◌, ap, ◌≢◌}
use Rattle.std.proofs.lemmas.Grind.{common_steps}
use Rattle.std.proofs.lemmas.List.{get_or-set_other}
use Rattle.flow_limits.specs.Limits.{greatest_completion}
use Rattle.flow_shop.specs.Shop.{time}
use Rattle.flow_shop.proofs.Recurrence.{after}
use Rattle.flow_shop.proofs.Fronts.{free_at, done-more, after-step}
use Rattle.flow_nodes.proofs.KeptNodes.{fronts-put}
use Rattle.flow_nodes.proofs.node.put_behind.Goals as goal

pub loop-machine-preserved : goal.loop-machine-preserved
loop-machine-preserved c =
    let within : c.loop-machine.machine - 1 < length c.loop-machine.fronts = omega arith in
    let there : c.time.result ≡ time c.args.instance.now c.args.job c.loop-machine.machine = c.time.ensures.value in
    let value = after-step c.args.instance.now c.args.fronts.now c.loop-machine.fronts c.args.job
    c.loop-machine.machine c.loop-machine.free c.time.result (c.max.result + c.time.result)
    (omega arith) c.loop-machine.invariant.free (c.loop-machine.invariant.others (c.loop-machine.machine - 1)
    (omega arith)) there (omega arith) in
    let old_small : slice_index c.args.fronts.now (c.loop-machine.machine - 1) ≤ greatest_completion =
    c.requires.within (c.loop-machine.machine - 1) (omega arith) in
    let next : c.loop-machine.machine + 1 - 1 ≡ c.loop-machine.machine = omega arith in
    record {
      end = search rules;
      free = value ∙ ap (after c.args.instance.now (free_at c.args.fronts.now) c.args.job) (sym next);
      length = grind (arith, common_steps);
      small = omega (arith, c.loop-machine.invariant.others (c.loop-machine.machine - 1) (omega arith), old_small);
      done = done-more c.args.instance.now c.args.fronts.now c.loop-machine.fronts c.args.job
          c.loop-machine.machine (c.max.result
          + c.time.result) (omega arith) within value c.loop-machine.invariant.done;
      others = λ place high. let other : place ≢ c.loop-machine.machine - 1 = omega arith in
          rw get_or-set_other (c.loop-machine.invariant.others place (omega arith));
    }

pub returns : goal.returns
returns c first all are =
    fronts-put c.args.instance.now first c.args.fronts.now c.loop-machine.fronts c.args.job all c.requires.job are
    (λ machine low high. c.loop-machine.invariant.done machine low (omega arith))
