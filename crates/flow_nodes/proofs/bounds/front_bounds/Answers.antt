use Rattle.std.proofs.Common.{◌≡◌, ℕ, ◌+◌, ◌-◌, ◌<◌, max, [], ◌∷◌, ◌++◌, length, map, slice_index, sym, subst, arith}
use Rattle.flow_shop.specs.Shop.{numbers, time}
use Rattle.flow_shop.specs.Least.{greatest}
use Rattle.flow_shop.specs.Ends.{front}
use Rattle.flow_nodes.specs.Vectors.{HasLane}
use Rattle.flow_nodes.specs.internal.Children.{front_child_at}
use Rattle.flow_nodes.proofs.ChildSteps.{front-none, front-next, front-greatest}
use Rattle.flow_nodes.proofs.GroupSteps.{lane-at}
use Rattle.flow_nodes.proofs.bounds.front_bounds.Goals as goal

pub loop-place-init : goal.loop-place-init
loop-place-init g c = record {
  free = λ shop first last jobs lane is are within.
      subst (λ n. HasLane g.V.Vector.CAP g.V.Vector.WIDTH (g.V.Vector.list c.each-free.result) lane n)
      (sym (front-none shop first last (slice_index jobs lane) c.args.node.now is (are.each lane within)))
      (c.each-free.ensures lane within);
  bounds = λ shop first last jobs lane is are within. c.each-free.ensures lane within;
}

pub loop-place-preserved : goal.loop-place-preserved
loop-place-preserved g c = record {
  free = λ shop first last jobs lane is are within.
      let place : ℕ = c.loop-place.place in
      let job : ℕ = slice_index jobs lane in
      let free : ℕ = front shop (first ++ job ∷ []) place in
      let below : place < length c.args.group.now =
      omega (arith, c.loop-place-test.true) in
      let few : length c.args.group.now ≡ shop.machines = are.machines in
      let start = c.at_least-start.ensures lane free c.from.result
      (c.loop-place.invariant.free shop first last jobs lane is are within) (c.all.ensures lane within) in
      let same : place ≡ place + 1 - 1 = omega arith in
      let times = lane-at g.V.Vector.list g.V.Vector.CAP g.V.Vector.WIDTH shop jobs c.args.group.now (place + 1) place lane
      c.index-group-place.result are same (omega arith) (omega (arith, below, few)) within c.index-group-place.is in
      subst (λ n. HasLane g.V.Vector.CAP g.V.Vector.WIDTH (g.V.Vector.list c.plus-free.result) lane n)
      (front-next shop first last job c.args.node.now is (are.each lane within) place c.from.result
      (omega (arith, below, few)) c.from.ensures)
      (c.plus-free.ensures lane (max free c.from.result) (time shop job (place + 1)) start times);
  bounds = λ shop first last jobs lane is are within.
      let place : ℕ = c.loop-place.place in
      let job : ℕ = slice_index jobs lane in
      let free : ℕ = front shop (first ++ job ∷ []) place in
      let below : place < length c.args.group.now =
      omega (arith, c.loop-place-test.true) in
      let few : length c.args.group.now ≡ shop.machines = are.machines in
      let start = c.at_least-start.ensures lane free c.from.result
      (c.loop-place.invariant.free shop first last jobs lane is are within) (c.all.ensures lane within) in
      let rest : ℕ = c.from-in-loop-place.result + c.from-in-loop-place-2.result in
      let whole = c.plus.ensures lane (max free c.from.result) rest start (c.all-in-loop-place.ensures lane within) in
      subst (λ n. HasLane g.V.Vector.CAP g.V.Vector.WIDTH (g.V.Vector.list c.at_least-bounds.result) lane n)
      (front-greatest shop first last job c.args.node.now is (are.each lane within) place c.from.result
      c.from-in-loop-place.result c.from-in-loop-place-2.result (omega (arith, below, few)) c.from.ensures
      c.from-in-loop-place.ensures c.from-in-loop-place-2.ensures)
      (c.at_least-bounds.ensures lane (greatest (map (front_child_at shop first last job) (numbers 1 place)))
      (max free c.from.result + rest) (c.loop-place.invariant.bounds shop first last jobs lane is are within) whole);
}

pub returns : goal.returns
returns g c shop first last jobs lane is are within =
    let few : length c.args.group.now ≡ shop.machines = are.machines in
    let all : c.loop-place.place ≡ shop.machines = omega (arith, few, c.loop-place-test.false, c.loop-place.auto.place-end) in
    subst (λ m. HasLane g.V.Vector.CAP g.V.Vector.WIDTH (g.V.Vector.list c.loop-place.bounds) lane
    (greatest (map (front_child_at shop first last (slice_index jobs lane)) (numbers 1 m)))) all
    (c.loop-place.invariant.bounds shop first last jobs lane is are within)
