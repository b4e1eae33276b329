use Rattle.std.proofs.Common.{◌≡◌, ℕ, ◌+◌, ◌-◌, ◌<◌, [], ◌∷◌, ◌++◌, length, map, slice_index, subst, arith}
use Rattle.flow_shop.specs.Shop.{numbers, time}
use Rattle.flow_shop.specs.Least.{greatest}
use Rattle.flow_shop.specs.Ends.{front}
use Rattle.flow_shop.specs.declared.end.End.TheVariants.{Front}
use Rattle.flow_nodes.specs.Vectors.{HasLane}
use Rattle.flow_nodes.specs.internal.Children.{front_child_at}
use Rattle.flow_nodes.specs.internal.Passes.{greatest_up_to}
use Rattle.flow_nodes.proofs.GroupSteps.{lane-at}
use Rattle.flow_nodes.proofs.OverSteps.{front-over}
use Rattle.flow_nodes.proofs.PassSteps.{front-begun}
use Rattle.flow_nodes.proofs.few_groups.small_front_bounds.Goals as goal

pub fours-init : goal.fours-init
fours-init g c = record {
  within = omega arith;
  passed = λ shop first last jobs lane is are within.
      front-begun g.V.Vector.list g.V.Vector.CAP g.V.Vector.WIDTH shop first last (slice_index jobs lane) lane
      c.args.node.now is (are.each lane within) (record { free = c.each-zeros.result; bounds = c.each-zeros.result })
      (c.each-zeros.ensures lane within) (c.each-zeros.ensures lane within);
}

pub fours-preserved : goal.fours-preserved
fours-preserved g c = record {
  within = omega (arith, c.fours-test.true, c.known_or-machines.ensures);
  passed = λ shop first last jobs lane is are within.
      c.over_four_at_front-pass.ensures shop first last jobs lane is are within
      (c.fours.invariant.passed shop first last jobs lane is are within);
}

pub others-preserved : goal.others-preserved
others-preserved g c = record {
  within = omega (arith, c.others-test.true, c.known_or-machines.ensures);
  passed = λ shop first last jobs lane is are within.
      let place : ℕ = c.others.at in
      let job : ℕ = slice_index jobs lane in
      let near : ℕ = slice_index c.args.node.now.front place in
      let rest : ℕ = slice_index c.args.node.now.work place + slice_index c.args.node.now.back place in
      let free : ℕ = front shop (first ++ job ∷ []) place in
      let below : place < length c.args.group.now = omega (arith, c.others-test.true, c.known_or-machines.ensures) in
      let there : place < shop.machines = omega (arith, below, are.machines) in
      let so_far = c.others.invariant.passed shop first last jobs lane is are within in
      let near-in = c.each-near.ensures lane within in
      let rest-in = c.each-rest.ensures lane within in
      let same : place ≡ place + 1 - 1 = omega arith in
      let times = lane-at g.V.Vector.list g.V.Vector.CAP g.V.Vector.WIDTH shop jobs c.args.group.now (place + 1) place lane
      c.index-group-at.result are same (omega arith) (omega (arith, there)) within c.index-group-at.is in
      front-over g.V.Vector.list g.V.Vector.CAP g.V.Vector.WIDTH shop first last job lane c.args.node.now is
      (are.each lane within) c.over_machine-pass.result place (place + 1) (omega arith) there
      (c.over_machine-pass.ensures.free lane free near (time shop job (place + 1)) so_far.free near-in times)
      (c.over_machine-pass.ensures.bounds lane free
      (greatest (map (front_child_at shop first last job) (numbers 1 place))) near rest so_far.free so_far.bounds near-in
      rest-in);
}

pub returns : goal.returns
returns g c shop first last jobs lane is are within =
    let all : c.others.at ≡ shop.machines =
    omega (arith, are.machines, c.others-test.false, c.others.invariant.within, c.known_or-machines.ensures) in
    let passed = c.others.invariant.passed shop first last jobs lane is are within in
    subst (λ m. HasLane g.V.Vector.CAP g.V.Vector.WIDTH (g.V.Vector.list c.others.pass.bounds) lane
    (greatest_up_to shop Front first last (slice_index jobs lane) m)) all passed.bounds
