use Rattle.std.proofs.Common.{◌≡◌, ℕ, ◌+◌, ◌-◌, ◌≤◌, max, ◌∷◌, length, map, slice_index, ap, sym, ◌∙◌}
use Rattle.std.proofs.Common.{subst, refl, arith}
use Rattle.flow_shop.specs.Shop.{numbers, time}
use Rattle.flow_shop.specs.Least.{greatest}
use Rattle.flow_shop.specs.Ends.{back}
use Rattle.flow_nodes.specs.Vectors.{HasLane}
use Rattle.flow_nodes.specs.internal.Children.{back_child_at}
use Rattle.flow_nodes.proofs.ChildSteps.{back-none, back-greatest-none, back-next, back-greatest}
use Rattle.flow_nodes.proofs.GroupSteps.{lane-at}
use Rattle.flow_nodes.proofs.bounds.back_bounds.Goals as goal

pub loop-machine-init : goal.loop-machine-init
loop-machine-init g c = record {
  within = omega arith;
  free = λ shop first last jobs lane is are within.
      let few : shop.machines ≡ length c.args.group.now = sym are.machines in
      subst (λ n. HasLane g.V.Vector.CAP g.V.Vector.WIDTH (g.V.Vector.list c.each-free.result) lane n)
      (sym (back-none shop first last (slice_index jobs lane) c.args.node.now is (are.each lane within))
      ∙ ap (λ m. back shop (slice_index jobs lane ∷ last) (m + 1)) few)
      (c.each-free.ensures lane within);
  bounds = λ shop first last jobs lane is are within.
      let few : shop.machines ≡ length c.args.group.now = sym are.machines in
      subst (λ n. HasLane g.V.Vector.CAP g.V.Vector.WIDTH (g.V.Vector.list c.each-free.result) lane n)
      (sym (back-greatest-none shop first last (slice_index jobs lane) c.args.node.now is (are.each lane within))
      ∙ ap (λ m. greatest (map (back_child_at shop first last (slice_index jobs lane))
      (numbers (m + 1) shop.machines))) few)
      (c.each-free.ensures lane within);
}

pub loop-machine-preserved : goal.loop-machine-preserved
loop-machine-preserved g c = record {
  within = omega (arith, c.loop-machine.invariant.within);
  free = λ shop first last jobs lane is are within.
      let machine : ℕ = c.loop-machine.machine in
      let job : ℕ = slice_index jobs lane in
      let free : ℕ = back shop (job ∷ last) (machine + 1) in
      let low : 1 ≤ machine = omega (arith, c.loop-machine-test.true) in
      let high : machine ≤ shop.machines = omega (arith, c.loop-machine.invariant.within, are.machines) in
      let next : machine ≡ machine - 1 + 1 = omega (arith, low) in
      let start = c.at_least-start.ensures lane free c.from.result
      (c.loop-machine.invariant.free shop first last jobs lane is are within) (c.all.ensures lane within) in
      let times = lane-at g.V.Vector.list g.V.Vector.CAP g.V.Vector.WIDTH shop jobs c.args.group.now machine (machine - 1)
      lane c.index-group-place.result are refl low high within c.index-group-place.is in
      subst (λ n. HasLane g.V.Vector.CAP g.V.Vector.WIDTH (g.V.Vector.list c.plus-free.result) lane n)
      (back-next shop first last job c.args.node.now is (are.each lane within) machine c.from.result low high
      c.from.ensures
      ∙ ap (back shop (job ∷ last)) next)
      (c.plus-free.ensures lane (max free c.from.result) (time shop job machine) start times);
  bounds = λ shop first last jobs lane is are within.
      let machine : ℕ = c.loop-machine.machine in
      let job : ℕ = slice_index jobs lane in
      let free : ℕ = back shop (job ∷ last) (machine + 1) in
      let low : 1 ≤ machine = omega (arith, c.loop-machine-test.true) in
      let high : machine ≤ shop.machines = omega (arith, c.loop-machine.invariant.within, are.machines) in
      let next : machine ≡ machine - 1 + 1 = omega (arith, low) in
      let start = c.at_least-start.ensures lane free c.from.result
      (c.loop-machine.invariant.free shop first last jobs lane is are within) (c.all.ensures lane within) in
      let rest : ℕ = c.from-in-loop-machine.result + c.from-in-loop-machine-2.result in
      let whole = c.plus.ensures lane (max free c.from.result) rest start (c.all-in-loop-machine.ensures lane within) in
      subst (λ n. HasLane g.V.Vector.CAP g.V.Vector.WIDTH (g.V.Vector.list c.at_least-bounds.result) lane n)
      (back-greatest shop first last job c.args.node.now is (are.each lane within) machine c.from.result
      c.from-in-loop-machine.result c.from-in-loop-machine-2.result low high c.from.ensures
      c.from-in-loop-machine.ensures c.from-in-loop-machine-2.ensures
      ∙ ap (λ k. greatest (map (back_child_at shop first last job) (numbers k shop.machines))) next)
      (c.at_least-bounds.ensures lane
      (greatest (map (back_child_at shop first last job) (numbers (machine + 1) shop.machines)))
      (max free c.from.result + rest) (c.loop-machine.invariant.bounds shop first last jobs lane is are within) whole);
}

pub returns : goal.returns
returns g c shop first last jobs lane is are within =
    let all : c.loop-machine.machine + 1 ≡ 1 = omega (arith, c.loop-machine-test.false) in
    subst (λ k. HasLane g.V.Vector.CAP g.V.Vector.WIDTH (g.V.Vector.list c.loop-machine.bounds) lane
    (greatest (map (back_child_at shop first last (slice_index jobs lane)) (numbers k shop.machines)))) all
    (c.loop-machine.invariant.bounds shop first last jobs lane is are within)
