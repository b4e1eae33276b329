use Rattle.std.proofs.Common.{◌≡◌, ◌≢◌, ℕ, ◌+◌, ◌-◌, ◌<◌, ◌≤◌, max, [], ◌∷◌, ◌++◌, length, map, slice_index}
use Rattle.std.proofs.Common.{refl, sym, ◌∙◌, subst, inl, inr, arith}
use Rattle.std.specs.Prelude.{◌⊎◌}
use Rattle.std.proofs.lemmas.List.{get_or-set_other}
use Rattle.flow_shop.specs.Shop.{numbers, time}
use Rattle.flow_shop.specs.Least.{greatest}
use Rattle.flow_shop.specs.Ends.{front}
use Rattle.flow_nodes.specs.Vectors.{HasLane}
use Rattle.flow_nodes.specs.Open.{start_at}
use Rattle.flow_nodes.specs.internal.Children.{front_child_at}
use Rattle.flow_nodes.specs.internal.Passes.{HasPassed}
use Rattle.flow_shop.specs.declared.end.End.TheVariants.{Front}
use Rattle.flow_nodes.proofs.ChildSteps.{front-next, front-greatest}
use Rattle.flow_nodes.proofs.GroupSteps.{lane-at}
use Rattle.flow_nodes.proofs.SpreadSteps.{spread-more}
use Rattle.flow_nodes.proofs.StartSteps.{front-start}
use Rattle.flow_nodes.proofs.passes.pass_front.Goals as goal

pub loop-place-init : goal.loop-place-init
loop-place-init g c = record {
  passed = λ shop first last jobs node lane is paired are within before. before;
  starts = λ shop first last jobs node lane is paired are within before place none low high.
      absurd (omega (arith, low, high));
  others = λ place none apart. refl;
}

pub loop-place-preserved : goal.loop-place-preserved
loop-place-preserved g c = record {
  passed = λ shop first last jobs node lane is paired are within before.
      let place : ℕ = c.loop-place.place in
      let job : ℕ = slice_index jobs lane in
      let near : ℕ = slice_index node.front place in
      let rest : ℕ = slice_index node.work place + slice_index node.back place in
      let free : ℕ = front shop (first ++ job ∷ []) place in
      let below : place < length c.args.group.now = omega (arith, c.loop-place-test.true, c.requires.within) in
      let few : length c.args.group.now ≡ shop.machines = are.machines in
      let so_far = c.loop-place.invariant.passed shop first last jobs node lane is paired are within before in
      let start = c.at_least-start.ensures lane free near so_far.free
      (c.from_pair.ensures near lane (paired.near place below).1 (paired.near place below).0 within) in
      let whole = c.plus.ensures lane (max free near) rest start
      (c.from_pair-in-loop-place.ensures rest lane (paired.rest place below).1 (paired.rest place below).0 within) in
      let same : place ≡ place + 1 - 1 = omega arith in
      let times = lane-at g.V.Vector.list g.V.Vector.CAP g.V.Vector.WIDTH shop jobs c.args.group.now (place + 1) place lane
      c.index-group-place.result are same (omega arith) (omega (arith, below, few)) within c.index-group-place.is in
      record {
        free = subst (λ n. HasLane g.V.Vector.CAP g.V.Vector.WIDTH (g.V.Vector.list c.plus-free.result) lane n)
            (front-next shop first last job node is (are.each lane within) place near (omega (arith, below, few)) refl)
            (c.plus-free.ensures lane (max free near) (time shop job (place + 1)) start times);
        bounds = subst (λ n. HasLane g.V.Vector.CAP g.V.Vector.WIDTH (g.V.Vector.list c.at_least-bounds.result) lane n)
            (front-greatest shop first last job node is (are.each lane within) place near (slice_index node.work place)
            (slice_index node.back place) (omega (arith, below, few)) refl refl refl)
            (c.at_least-bounds.ensures lane (greatest (map (front_child_at shop first last job) (numbers 1 place)))
            (max free near + rest) so_far.bounds whole);
      };
  starts = λ shop first last jobs node lane is paired are within before.
      let place : ℕ = c.loop-place.place in
      let job : ℕ = slice_index jobs lane in
      let near : ℕ = slice_index node.front place in
      let free : ℕ = front shop (first ++ job ∷ []) place in
      let below : place < length c.args.group.now = omega (arith, c.loop-place-test.true, c.requires.within) in
      let few : length c.args.group.now ≡ shop.machines = are.machines in
      let so_far = c.loop-place.invariant.passed shop first last jobs node lane is paired are within before in
      let start = c.at_least-start.ensures lane free near so_far.free
      (c.from_pair.ensures near lane (paired.near place below).1 (paired.near place below).0 within) in
      spread-more
      (λ p v. c.args.from ≤ p → HasLane g.V.Vector.CAP g.V.Vector.WIDTH (g.V.Vector.list v) lane
      (start_at shop Front first last job (p + 1))) c.loop-place.starts place c.at_least-start.result
      (omega (arith, below, c.requires.starts, c.loop-place.auto.starts))
      (λ behind. subst (λ n. HasLane g.V.Vector.CAP g.V.Vector.WIDTH (g.V.Vector.list c.at_least-start.result) lane n)
      (front-start shop first last job node is place near (omega (arith, below, few)) refl) start)
      (c.loop-place.invariant.starts shop first last jobs node lane is paired are within before);
  others = λ place none apart.
      let here : ℕ = c.loop-place.place in
      let other : place ≢ here = elim apart [
        | inl low ↦ omega (arith, low, c.loop-place.auto.place)
        | inr high ↦ omega (arith, high)
      ] in
      let out : (place < c.args.from) ⊎ (here ≤ place) = elim apart [
        | inl low ↦ inl low
        | inr high ↦ inr (omega (arith, high))
      ] in
      get_or-set_other c.loop-place.starts here place c.at_least-start.result none other
      ∙ c.loop-place.invariant.others place none out;
}

pub returns-clause-passed : goal.returns-clause-passed
returns-clause-passed g c shop first last jobs node lane is paired are within before =
    let all : c.loop-place.place ≡ c.args.to = omega (arith, c.loop-place-test.false, c.requires.order) in
    subst (λ m. HasPassed g.V.Vector.list g.V.Vector.CAP g.V.Vector.WIDTH shop Front first last (slice_index jobs lane) lane
    m (record { free = c.loop-place.free; bounds = c.loop-place.bounds })) all
    (c.loop-place.invariant.passed shop first last jobs node lane is paired are within before)

pub returns-clause-starts : goal.returns-clause-starts
returns-clause-starts g c shop first last jobs node lane place none is paired are within before low high =
    c.loop-place.invariant.starts shop first last jobs node lane is paired are within before place none
    (omega (arith, high, c.loop-place-test.false)) low

pub returns-clause-others : goal.returns-clause-others
returns-clause-others g c place none apart =
    let all : c.loop-place.place ≡ c.args.to = omega (arith, c.loop-place-test.false, c.requires.order) in
    c.loop-place.invariant.others place none (subst (λ m. (place < c.args.from) ⊎ (m ≤ place)) (sym all) apart)
