use Rattle.std.proofs.Common.{arith}
use Rattle.flow_improve.proofs.BoundSteps.{count-yes, count-no, sum-more}
use Rattle.flow_improve.proofs.two_ended.bounds.ChildBounds.totals.Goals as goal
use Rattle.flow_improve.proofs.two_ended.bounds.ChildBounds.totals.Goals.{then-bound-threshold, else-bound-threshold}

pub loop-place-preserved : goal.loop-place-preserved
loop-place-preserved c =
    let shop = c.args.instance.now in
    let entry = c.args.entry.now in
    let end = c.args.end in
    let place = c.loop-place.place in
    let more = sum-more shop entry end place c.at.result c.requires.entry c.loop-place.auto.place
    c.loop-place-test.true c.at.ensures in
    elim c.if-bound-threshold.branch [
      | then-bound-threshold w ↦ record {
        few = omega (arith, c.loop-place.invariant.few, w.below-is);
        counted = omega (
          arith,
          c.loop-place.invariant.counted,
          w.below-is,
          count-yes shop entry end place c.at.result c.requires.entry c.loop-place.auto.place c.loop-place-test.true
              c.at.ensures c.args.threshold (omega (arith, w.if-bound-threshold.true, c.from-bound.ensures)),
        );
        small = omega (arith, c.loop-place.invariant.small, c.from-bound.ensures);
        summed = omega (arith, c.loop-place.invariant.summed, c.from-bound.ensures, more);
      }
      | else-bound-threshold w ↦ record {
        few = omega (arith, c.loop-place.invariant.few, w.below-is);
        counted = omega (
          arith,
          c.loop-place.invariant.counted,
          w.below-is,
          count-no shop entry end place c.at.result c.requires.entry c.loop-place.auto.place c.loop-place-test.true
              c.at.ensures c.args.threshold (omega (arith, w.if-bound-threshold.false, c.from-bound.ensures)),
        );
        small = omega (arith, c.loop-place.invariant.small, c.from-bound.ensures);
        summed = omega (arith, c.loop-place.invariant.summed, c.from-bound.ensures, more);
      }
    ]
