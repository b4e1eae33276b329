use Rattle.std.proofs.Common.{◌≡◌, ℕ, ◌+◌, ◌-◌, ◌<◌, ◌∷◌, length, map, slice_index, ap, ◌∙◌, subst, arith}
use Rattle.flow_shop.specs.Shop.{numbers, time}
use Rattle.flow_shop.specs.Least.{greatest}
use Rattle.flow_shop.specs.Ends.{back}
use Rattle.flow_shop.specs.declared.end.End.TheVariants.{Back}
use Rattle.flow_nodes.specs.internal.Children.{back_child_at}
use Rattle.flow_nodes.specs.internal.Passes.{HasPassed}
use Rattle.flow_nodes.proofs.GroupSteps.{lane-at}
use Rattle.flow_nodes.proofs.OverSteps.{back-over}
use Rattle.flow_nodes.proofs.ScanSteps.{sums, sums-size, sums-each}
use Rattle.flow_nodes.proofs.few_groups.over_four_at_back.Goals as goal

pub pairs-requires-2 : goal.pairs-requires-2
pairs-requires-2 g c =
    sums-size c.four_of-2.result c.four_of-3.result c.four_of-2.ensures.size c.four_of-3.ensures.size

pub loop-machine-init : goal.loop-machine-init
loop-machine-init g c = record {
  within = omega arith;
  passed = λ shop first last jobs lane is are within before. before;
}

pub loop-machine-preserved : goal.loop-machine-preserved
loop-machine-preserved g c = record {
  within = omega (arith, c.loop-machine.invariant.within);
  passed = λ shop first last jobs lane is are within before.
      let machine : ℕ = c.loop-machine.machine - 1 in
      let place : ℕ = c.args.at + machine in
      let job : ℕ = slice_index jobs lane in
      let near : ℕ = slice_index c.args.node.now.back place in
      let rest : ℕ = slice_index c.args.node.now.work place + slice_index c.args.node.now.front place in
      let before_it : ℕ = c.args.at + c.loop-machine.machine in
      let free : ℕ = back shop (job ∷ last) (before_it + 1) in
      let low : machine < 4 = omega (arith, c.loop-machine-test.true, c.loop-machine.invariant.within) in
      let below : place < length c.args.group.now = omega (arith, low, c.requires.at) in
      let there : place < shop.machines = omega (arith, below, are.machines) in
      let small = c.requires.small place below in
      let so_far = c.loop-machine.invariant.passed shop first last jobs lane is are within before in
      let at-near : slice_index c.four_of.result machine ≡ near = c.four_of.ensures.each machine low in
      let one : slice_index c.four_of-2.result machine ≡ slice_index c.args.node.now.work place =
      c.four_of-2.ensures.each machine low in
      let two : slice_index c.four_of-3.result machine ≡ slice_index c.args.node.now.front place =
      c.four_of-3.ensures.each machine low in
      let at-rest : slice_index (sums c.four_of-2.result c.four_of-3.result) machine ≡ rest =
      sums-each c.four_of-2.result c.four_of-3.result c.four_of-2.ensures.size c.four_of-3.ensures.size machine low
      (omega (arith, one, two, small.1))
      ∙ omega (arith, one, two) in
      let near-in = c.from_pair-near.ensures near lane (omega (arith, small.0))
      (c.pairs.ensures.each machine low (omega (arith, at-near, small.0)) ∙ ap g.V.Vector.pair_of at-near) within in
      let rest-in = c.from_pair.ensures rest lane (omega (arith, small.0))
      (c.pairs-2.ensures.each machine low (omega (arith, at-rest, small.0)) ∙ ap g.V.Vector.pair_of at-rest) within in
      let same : place ≡ place + 1 - 1 = omega arith in
      let times = lane-at g.V.Vector.list g.V.Vector.CAP g.V.Vector.WIDTH shop jobs c.args.group.now (place + 1) place lane
      c.index-group-at.result are same (omega arith) (omega (arith, there)) within c.index-group-at.is in
      back-over g.V.Vector.list g.V.Vector.CAP g.V.Vector.WIDTH shop first last job lane c.args.node.now is
      (are.each lane within) c.over_machine-four.result place before_it (omega (arith, c.loop-machine-test.true)) there
      (c.over_machine-four.ensures.free lane free near (time shop job (place + 1)) so_far.free near-in times)
      (c.over_machine-four.ensures.bounds lane free
      (greatest (map (back_child_at shop first last job) (numbers (before_it + 1) shop.machines))) near rest so_far.free
      so_far.bounds near-in rest-in);
}

pub returns : goal.returns
returns g c shop first last jobs lane is are within before =
    let all : c.args.at + c.loop-machine.machine ≡ c.args.at = omega (arith, c.loop-machine-test.false) in
    subst (λ p. HasPassed g.V.Vector.list g.V.Vector.CAP g.V.Vector.WIDTH shop Back first last (slice_index jobs lane) lane
    p c.loop-machine.four) all
    (c.loop-machine.invariant.passed shop first last jobs lane is are within before)
