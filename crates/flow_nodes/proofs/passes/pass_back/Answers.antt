use Rattle.std.proofs.Common.{◌≡◌, ◌≢◌, ℕ, ◌+◌, ◌-◌, ◌<◌, ◌≤◌, max, ◌∷◌, length, map, slice_index}
use Rattle.std.proofs.Common.{refl, ap, sym, ◌∙◌, subst, inl, inr, arith}
use Rattle.std.specs.Prelude.{◌⊎◌}
use Rattle.std.proofs.lemmas.List.{get_or-set_other}
use Rattle.flow_shop.specs.Shop.{numbers, time}
use Rattle.flow_shop.specs.Least.{greatest}
use Rattle.flow_shop.specs.Ends.{back}
use Rattle.flow_nodes.specs.Vectors.{HasLane}
use Rattle.flow_nodes.specs.Open.{start_at}
use Rattle.flow_nodes.specs.internal.Children.{back_child_at}
use Rattle.flow_nodes.specs.internal.Passes.{HasPassed}
use Rattle.flow_shop.specs.declared.end.End.TheVariants.{Back}
use Rattle.flow_nodes.proofs.ChildSteps.{back-next, back-greatest}
use Rattle.flow_nodes.proofs.GroupSteps.{lane-at}
use Rattle.flow_nodes.proofs.StartSteps.{back-start, spread-down}
use Rattle.flow_nodes.proofs.passes.pass_back.Goals as goal

pub loop-machine-init : goal.loop-machine-init
loop-machine-init g c = record {
  low = c.requires.order;
  high = omega arith;
  passed = λ shop first last jobs node lane is paired are within before. before;
  starts = λ shop first last jobs node lane is paired are within before place none low high.
      absurd (omega (arith, low, high));
  others = λ place none apart. refl;
}

pub loop-machine-preserved : goal.loop-machine-preserved
loop-machine-preserved g c = record {
  low = omega (arith, c.loop-machine-test.true);
  high = omega (arith, c.loop-machine.invariant.high);
  passed = λ shop first last jobs node lane is paired are within before.
      let machine : ℕ = c.loop-machine.machine in
      let job : ℕ = slice_index jobs lane in
      let near : ℕ = slice_index node.back (machine - 1) in
      let rest : ℕ = slice_index node.work (machine - 1) + slice_index node.front (machine - 1) in
      let free : ℕ = back shop (job ∷ last) (machine + 1) in
      let low : 1 ≤ machine = omega (arith, c.loop-machine-test.true) in
      let high : machine ≤ shop.machines =
      omega (arith, c.loop-machine.invariant.high, c.requires.within, are.machines) in
      let next : machine ≡ machine - 1 + 1 = omega (arith, low) in
      let below : machine - 1 < length c.args.group.now = omega (arith, low, high, are.machines) in
      let so_far = c.loop-machine.invariant.passed shop first last jobs node lane is paired are within before in
      let start = c.at_least-start.ensures lane free near so_far.free
      (c.from_pair.ensures near lane (paired.near (machine - 1) below).1 (paired.near (machine - 1) below).0 within) in
      let whole = c.plus.ensures lane (max free near) rest start
      (c.from_pair-in-loop-machine.ensures rest lane (paired.rest (machine - 1) below).1
      (paired.rest (machine - 1) below).0 within) in
      let times = lane-at g.V.Vector.list g.V.Vector.CAP g.V.Vector.WIDTH shop jobs c.args.group.now machine (machine - 1)
      lane c.index-group-place.result are refl low high within c.index-group-place.is in
      record {
        free = subst (λ n. HasLane g.V.Vector.CAP g.V.Vector.WIDTH (g.V.Vector.list c.plus-free.result) lane n)
            (back-next shop first last job node is (are.each lane within) machine near low high refl
            ∙ ap (back shop (job ∷ last)) next)
            (c.plus-free.ensures lane (max free near) (time shop job machine) start times);
        bounds = subst (λ n. HasLane g.V.Vector.CAP g.V.Vector.WIDTH (g.V.Vector.list c.at_least-bounds.result) lane n)
            (back-greatest shop first last job node is (are.each lane within) machine near
            (slice_index node.work (machine - 1)) (slice_index node.front (machine - 1)) low high refl refl refl
            ∙ ap (λ k. greatest (map (back_child_at shop first last job) (numbers k shop.machines))) next)
            (c.at_least-bounds.ensures lane
            (greatest (map (back_child_at shop first last job) (numbers (machine + 1) shop.machines)))
            (max free near + rest) so_far.bounds whole);
      };
  starts = λ shop first last jobs node lane is paired are within before.
      let machine : ℕ = c.loop-machine.machine in
      let job : ℕ = slice_index jobs lane in
      let near : ℕ = slice_index node.back (machine - 1) in
      let free : ℕ = back shop (job ∷ last) (machine + 1) in
      let low : 1 ≤ machine = omega (arith, c.loop-machine-test.true) in
      let high : machine ≤ shop.machines =
      omega (arith, c.loop-machine.invariant.high, c.requires.within, are.machines) in
      let next : machine ≡ machine - 1 + 1 = omega (arith, low) in
      let below : machine - 1 < length c.args.group.now = omega (arith, low, high, are.machines) in
      let so_far = c.loop-machine.invariant.passed shop first last jobs node lane is paired are within before in
      let start = c.at_least-start.ensures lane free near so_far.free
      (c.from_pair.ensures near lane (paired.near (machine - 1) below).1 (paired.near (machine - 1) below).0 within) in
      spread-down
      (λ p v. HasLane g.V.Vector.CAP g.V.Vector.WIDTH (g.V.Vector.list v) lane
      (start_at shop Back first last job (p + 1))) c.loop-machine.starts (machine - 1) c.args.to
      c.at_least-start.result (omega (arith, below, c.requires.starts, c.loop-machine.auto.starts))
      (subst (λ n. HasLane g.V.Vector.CAP g.V.Vector.WIDTH (g.V.Vector.list c.at_least-start.result) lane n)
      (back-start shop first last job node is machine near low high refl
      ∙ ap (start_at shop Back first last job) next) start)
      (λ place none above under. c.loop-machine.invariant.starts shop first last jobs node lane is paired are within
      before place none (omega (arith, above)) under);
  others = λ place none apart.
      let here : ℕ = c.loop-machine.machine - 1 in
      let other : place ≢ here = elim apart [
        | inl low ↦ omega (arith, low)
        | inr high ↦ omega (arith, high, c.loop-machine.invariant.high, c.loop-machine-test.true)
      ] in
      let out : (place < c.loop-machine.machine) ⊎ (c.args.to ≤ place) = elim apart [
        | inl low ↦ inl (omega (arith, low))
        | inr high ↦ inr high
      ] in
      get_or-set_other c.loop-machine.starts here place c.at_least-start.result none other
      ∙ c.loop-machine.invariant.others place none out;
}

pub returns-clause-passed : goal.returns-clause-passed
returns-clause-passed g c shop first last jobs node lane is paired are within before =
    let all : c.loop-machine.machine ≡ c.args.from =
    omega (arith, c.loop-machine-test.false, c.loop-machine.invariant.low) in
    subst (λ m. HasPassed g.V.Vector.list g.V.Vector.CAP g.V.Vector.WIDTH shop Back first last (slice_index jobs lane) lane
    m (record { free = c.loop-machine.free; bounds = c.loop-machine.bounds })) all
    (c.loop-machine.invariant.passed shop first last jobs node lane is paired are within before)

pub returns-clause-starts : goal.returns-clause-starts
returns-clause-starts g c shop first last jobs node lane place none is paired are within before low high =
    c.loop-machine.invariant.starts shop first last jobs node lane is paired are within before place none
    (omega (arith, low, c.loop-machine-test.false)) high

pub returns-clause-others : goal.returns-clause-others
returns-clause-others g c place none apart =
    let all : c.loop-machine.machine ≡ c.args.from =
    omega (arith, c.loop-machine-test.false, c.loop-machine.invariant.low) in
    c.loop-machine.invariant.others place none (subst (λ m. (place < m) ⊎ (c.args.to ≤ place)) (sym all) apart)
