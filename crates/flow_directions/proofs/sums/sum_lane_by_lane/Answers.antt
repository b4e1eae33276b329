use Rattle.std.proofs.Common.{◌≡◌, ◌≢◌, ◌<◌, [], sum_by, length, drop, slice_index, ap, sym}
use Rattle.std.proofs.Common.{◌∙◌, arith}
use Rattle.std.specs.Int.{bit_at}
use Rattle.std.proofs.lemmas.List.{drop_all}
use Rattle.std.proofs.lemmas.Nat.Bits.{shr_and_one}
use Rattle.flow_nodes.specs.Groups.{child_bound}
use Rattle.flow_nodes.specs.Marks.{picked}
use Rattle.flow_directions.proofs.BoundSums.{lane-picked, lane-passed, none-picked}
use Rattle.flow_nodes.proofs.ChildBounds.{child-bound-small}
use Rattle.flow_directions.proofs.sums.sum_lane_by_lane.Goals as goal
use Rattle.flow_directions.proofs.sums.sum_lane_by_lane.Goals.{then-left-lane-eq1, else-left-lane-eq1}

pub loop-lane-preserved : goal.loop-lane-preserved
loop-lane-preserved g c =
    let lane = c.loop-lane.lane in
    let names = c.args.names.now in
    let shop = c.args.instance.now in
    let low : lane < 16 = omega (arith, c.loop-lane-test.true) in
    let wide : lane < g.V.Vector.WIDTH = omega (arith, low, c.requires.wide) in
    let within : lane < length names = omega (arith, low, c.requires.names) in
    elim c.if-left-lane-eq1.branch [
      | then-left-lane-eq1 w ↦
          let bit : bit_at c.args.left lane ≡ 1 = sym (shr_and_one c.args.left lane) ∙ w.if-left-lane-eq1.true in
          let at = c.requires.at in
          let few : child_bound shop c.args.end at.0 at.1 (slice_index names lane) < 4294967295 =
          child-bound-small shop c.args.end at.0 at.1 (slice_index names lane) c.args.node.now at.2
          (at.3.each lane wide) (at.4 lane low bit) in
          record {
            small = omega (
              arith,
              w.sum-is,
              w.from-sum.ensures,
              c.loop-lane.invariant.small,
              few,
              w.bound_from_lane-bound.ensures at.0 at.1 at.2 (at.4 lane low bit),
            );
            rest = λ first last is group fresh. omega (
              arith,
              c.loop-lane.invariant.rest first last is group fresh,
              lane-picked (child_bound shop c.args.end first last) c.args.left lane names within bit,
              w.bound_from_lane-bound.ensures first last is (fresh lane low bit),
              w.sum-is,
              w.from-sum.ensures,
            );
          }
      | else-left-lane-eq1 w ↦
          let other : bit_at c.args.left lane ≢ 1 =
          λ is. w.if-left-lane-eq1.false (shr_and_one c.args.left lane ∙ is) in
          record {
            small = omega (arith, w.sum-is, c.loop-lane.invariant.small);
            rest = λ first last is group fresh. omega (
              arith,
              c.loop-lane.invariant.rest first last is group fresh,
              lane-passed (child_bound shop c.args.end first last) c.args.left lane names within other,
              w.sum-is,
            );
          }
    ]

pub returns-clause-sum : goal.returns-clause-sum
returns-clause-sum g c first last is group fresh =
    let end : drop c.loop-lane.lane c.args.names.now ≡ [] =
    drop_all c.loop-lane.lane c.args.names.now (omega (arith, c.requires.names, c.loop-lane-test.false)) in
    omega (
      arith,
      c.loop-lane.invariant.rest first last is group fresh,
      ap (λ l. sum_by (child_bound c.args.instance.now c.args.end first last)
          (picked c.args.left c.loop-lane.lane l)) end
          ∙ none-picked (child_bound c.args.instance.now c.args.end first last) c.args.left c.loop-lane.lane,
    )
