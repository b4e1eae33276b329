use Rattle.std.proofs.Common.{◌≡◌, ℕ, List, ◌∷◌, ◌-◌, ◌≤◌, ◌+◌, ◌<◌, slice_index, length, arith, ◌∙◌, ap, ◌≢◌}
use Rattle.std.proofs.lemmas.List.{get_or-set_other, length-set}
use Rattle.flow_limits.specs.Limits.{most_machines, greatest_completion}
use Rattle.flow_shop.specs.Shop.{time, AreOf}
use Rattle.flow_shop.specs.Ends.{back}
use Rattle.flow_nodes.proofs.NodeSteps.{filled-down}
use Rattle.flow_shop.proofs.EndSteps.{back-is}
use Rattle.flow_nodes.proofs.node.put_before.Goals as goal

pub loop-machine-preserved : goal.loop-machine-preserved
loop-machine-preserved c =
    let low : 1 ≤ c.loop-machine.machine = omega (arith, c.loop-machine-test.true) in
    let high : c.loop-machine.machine ≤ c.args.instance.now.machines = c.loop-machine.invariant.within in
    let most : c.args.instance.now.machines ≤ most_machines = c.machines-machine.ensures.limits.machines in
    let within : c.loop-machine.machine - 1 < length c.loop-machine.backs =
    omega (arith, low, high, most, c.loop-machine.invariant.length) in
    let there : c.time.result ≡ time c.args.instance.now c.args.job c.loop-machine.machine = c.time.ensures.value in
    let old : slice_index c.loop-machine.backs (c.loop-machine.machine - 1)
    ≡ slice_index c.args.backs.now (c.loop-machine.machine - 1) =
    c.loop-machine.invariant.others (c.loop-machine.machine - 1) (omega (arith, low)) in
    let small : slice_index c.args.backs.now (c.loop-machine.machine - 1) ≤ greatest_completion =
    c.requires.within (c.loop-machine.machine - 1) (omega (arith, low, high)) in
    let next : c.loop-machine.machine ≡ c.loop-machine.machine - 1 + 1 = omega (arith, low) in
    let value = λ (last : List ℕ) (are : AreOf c.args.instance.now (back c.args.instance.now last) c.args.backs.now).
    let v : c.max.result + c.time.result ≡ back c.args.instance.now (c.args.job ∷ last) c.loop-machine.machine =
    omega (
      arith,
      c.max.ensures,
      there,
      old,
      are c.loop-machine.machine low high,
      c.loop-machine.invariant.behind last are,
      back-is c.args.instance.now last c.args.job c.loop-machine.machine c.requires.job.0 c.requires.job.1 high,
    ) in v in
    record {
      within = omega (arith, high);
      length = length-set c.loop-machine.backs (c.loop-machine.machine - 1) (c.max.result + c.time.result)
          ∙ c.loop-machine.invariant.length;
      small = omega (
        arith,
        c.max.ensures,
        c.time.ensures.limit,
        old,
        small,
        low,
        high,
        c.loop-machine.invariant.small,
      );
      behind = λ last are. value last are ∙ ap (back c.args.instance.now (c.args.job ∷ last)) next;
      done = λ last are. filled-down (λ k v. v ≡ back c.args.instance.now (c.args.job ∷ last) k) c.loop-machine.backs
          c.loop-machine.machine (c.max.result + c.time.result) low within (value last are)
          c.args.instance.now.machines (c.loop-machine.invariant.done last are);
      others = λ place below. let other : place ≢ c.loop-machine.machine - 1 = omega arith in
          rw get_or-set_other (c.loop-machine.invariant.others place (omega arith));
    }
