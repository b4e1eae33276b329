use Rattle.std.proofs.Common.{◌≡◌, ℕ, ◌+◌, ◌-◌, ◌<◌, ◌∷◌, map, slice_index, ◌∙◌, subst, arith}
use Rattle.flow_shop.specs.Shop.{numbers, time}
use Rattle.flow_shop.specs.Least.{greatest}
use Rattle.flow_shop.specs.Ends.{back}
use Rattle.flow_shop.specs.declared.end.End.TheVariants.{Back}
use Rattle.flow_nodes.specs.Vectors.{HasLane}
use Rattle.flow_nodes.specs.internal.Children.{back_child_at}
use Rattle.flow_nodes.specs.internal.Passes.{HasPassed, greatest_up_to}
use Rattle.flow_nodes.proofs.GroupSteps.{lane-at}
use Rattle.flow_nodes.proofs.OverSteps.{back-over}
use Rattle.flow_nodes.proofs.PassSteps.{back-begun}
use Rattle.flow_nodes.proofs.few_groups.small_back_bounds.Goals as goal

pub others-init : goal.others-init
others-init g c = record {
  within = omega (arith, c.known_or-end.ensures);
  passed = λ shop first last jobs lane is are within.
      back-begun g.V.Vector.list g.V.Vector.CAP g.V.Vector.WIDTH shop first last (slice_index jobs lane) lane
      c.args.node.now is (are.each lane within) (record { free = c.each-zeros.result; bounds = c.each-zeros.result })
      (c.each-zeros.ensures lane within) (c.each-zeros.ensures lane within) c.known_or-end.result
      (c.known_or-end.ensures ∙ are.machines);
}

pub others-preserved : goal.others-preserved
others-preserved g c = record {
  within = omega (arith, c.others.invariant.within);
  passed = λ shop first last jobs lane is are within.
      let place : ℕ = c.others.end - 1 in
      let some : 0 < c.others.end = omega (arith, c.others-test.true) in
      let job : ℕ = slice_index jobs lane in
      let near : ℕ = slice_index c.args.node.now.back place in
      let rest : ℕ = slice_index c.args.node.now.work place + slice_index c.args.node.now.front place in
      let free : ℕ = back shop (job ∷ last) (c.others.end + 1) in
      let there : place < shop.machines = omega (arith, some, c.others.invariant.within, are.machines) in
      let so_far = c.others.invariant.passed shop first last jobs lane is are within in
      let near-in = c.each-near.ensures lane within in
      let rest-in = c.each-rest.ensures lane within in
      let same : place ≡ place + 1 - 1 = omega arith in
      let times = lane-at g.V.Vector.list g.V.Vector.CAP g.V.Vector.WIDTH shop jobs c.args.group.now (place + 1) place lane
      c.index-group-end.result are same (omega arith) (omega (arith, there)) within c.index-group-end.is in
      back-over g.V.Vector.list g.V.Vector.CAP g.V.Vector.WIDTH shop first last job lane c.args.node.now is
      (are.each lane within) c.over_machine-pass.result place c.others.end (omega (arith, some)) there
      (c.over_machine-pass.ensures.free lane free near (time shop job (place + 1)) so_far.free near-in times)
      (c.over_machine-pass.ensures.bounds lane free
      (greatest (map (back_child_at shop first last job) (numbers (c.others.end + 1) shop.machines))) near rest
      so_far.free so_far.bounds near-in rest-in);
}

pub fours-preserved : goal.fours-preserved
fours-preserved g c = record {
  within = omega (arith, c.fours.invariant.within);
  whole = omega (arith, c.fours.invariant.whole);
  passed = λ shop first last jobs lane is are within.
      let four : c.fours.end ≡ c.fours.end - 4 + 4 = omega (arith, c.fours-test.true, c.fours.invariant.whole) in
      c.over_four_at_back-pass.ensures shop first last jobs lane is are within
      (subst (λ p. HasPassed g.V.Vector.list g.V.Vector.CAP g.V.Vector.WIDTH shop Back first last (slice_index jobs lane)
      lane p c.fours.pass) four (c.fours.invariant.passed shop first last jobs lane is are within));
}

pub returns : goal.returns
returns g c shop first last jobs lane is are within =
    let all : c.fours.end ≡ 0 = omega (arith, c.fours-test.false) in
    let passed = c.fours.invariant.passed shop first last jobs lane is are within in
    subst (λ m. HasLane g.V.Vector.CAP g.V.Vector.WIDTH (g.V.Vector.list c.fours.pass.bounds) lane
    (greatest_up_to shop Back first last (slice_index jobs lane) m)) all passed.bounds
