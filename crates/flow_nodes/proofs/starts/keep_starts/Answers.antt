use Rattle.std.proofs.Common.{◌≡◌, ℕ, ◌+◌, ◌-◌, ◌<◌, length, map, slice_index, slice_index_or, ap, sym, ◌∙◌}
use Rattle.std.proofs.Common.{subst, arith}
use Rattle.std.proofs.lemmas.List.{same_lists, get_or_default}
use Rattle.flow_shop.specs.Shop.{numbers}
use Rattle.flow_shop.specs.Least.{greatest}
use Rattle.flow_nodes.specs.Vectors.{HasLane}
use Rattle.flow_nodes.specs.Open.{start_at}
use Rattle.flow_nodes.specs.internal.Spread.{at_other_end}
use Rattle.flow_nodes.proofs.SpreadSteps.{spread-more}
use Rattle.flow_nodes.proofs.StartSteps.{child_at, greatest-child, start-greatest}
use Rattle.flow_nodes.proofs.starts.keep_starts.Goals as goal

pub loop-place-init : goal.loop-place-init
loop-place-init g c = record {
  copied = λ place none low. absurd (omega (arith, low));
  bounds = λ shop end first last job node lane is rests size within starts. c.each-bounds.ensures lane within;
}

pub loop-place-preserved : goal.loop-place-preserved
loop-place-preserved g c =
    let place : ℕ = c.loop-place.place in
    let below : place < length c.args.starts.now =
    omega (arith, c.loop-place-test.true, c.known_or-machines.ensures) in
    record {
      copied = λ at none low.
          spread-more (λ p v. v ≡ slice_index_or c.args.starts.now p none) c.loop-place.kept place
          c.index-starts-place.result (omega (arith, below, c.requires.kept, c.loop-place.auto.kept))
          (c.index-starts-place.is ∙ get_or_default c.args.starts.now place c.index-starts-place.result none below)
          (λ p d under. c.loop-place.invariant.copied p d under
          ∙ get_or_default c.args.starts.now p d none (omega (arith, under, below))) at none low;
      bounds = λ shop end first last job node lane is rests size within starts.
          let same : place + 1 - 1 ≡ place = omega arith in
          let on : place < shop.machines = omega (arith, below, size) in
          let start : HasLane g.V.Vector.CAP g.V.Vector.WIDTH (g.V.Vector.list c.index-starts-place.result) lane
          (start_at shop end first last job (place + 1)) =
          subst (λ v. HasLane g.V.Vector.CAP g.V.Vector.WIDTH (g.V.Vector.list v) lane
          (start_at shop end first last job (place + 1)))
          (ap (λ i. slice_index_or c.args.starts.now i c.index-starts-place.result) same ∙ sym c.index-starts-place.is)
          (starts (place + 1) c.index-starts-place.result (omega arith, omega (arith, on))) in
          let rest : ℕ = slice_index node.work place + slice_index (at_other_end end node) place in
          let read = c.from_pair.ensures rest lane (rests place on).1 (rests place on).0 within in
          let whole = c.plus.ensures lane (start_at shop end first last job (place + 1)) rest start read in
          subst (λ n. HasLane g.V.Vector.CAP g.V.Vector.WIDTH (g.V.Vector.list c.at_least-bounds.result) lane n)
          (start-greatest shop first last job node is end place on)
          (c.at_least-bounds.ensures lane (greatest (map (child_at shop end first last job) (numbers 1 place)))
          (start_at shop end first last job (place + 1) + rest)
          (c.loop-place.invariant.bounds shop end first last job node lane is rests size within starts) whole);
    }

pub returns-clause-copied : goal.returns-clause-copied
returns-clause-copied g c =
    let size : length c.loop-place.kept ≡ length c.args.starts.now =
    omega (arith, c.requires.kept, c.loop-place.auto.kept) in
    same_lists c.loop-place.kept c.args.starts.now size
    (λ place none low. c.loop-place.invariant.copied place none (omega (arith, low, size, c.loop-place-test.false, c.known_or-machines.ensures)))

pub returns-clause-bounds : goal.returns-clause-bounds
returns-clause-bounds g c shop end first last job node lane is rests size within starts =
    let all : c.loop-place.place ≡ shop.machines = omega (arith, size, c.loop-place-test.false, c.known_or-machines.ensures) in
    subst (λ n. HasLane g.V.Vector.CAP g.V.Vector.WIDTH (g.V.Vector.list c.loop-place.bounds) lane n)
    (ap (λ m. greatest (map (child_at shop end first last job) (numbers 1 m))) all
    ∙ greatest-child shop end first last job)
    (c.loop-place.invariant.bounds shop end first last job node lane is rests size within starts)
