use Rattle.std.proofs.Common.{◌≤◌, slice_index, arith}
use Rattle.flow_nodes.proofs.bytes.U8x16Vector.sum_marked.Goals as goal

pub returns : goal.returns
returns c = record {
  small = c.sum_marked.ensures.small;
  sum = λ f names long each. c.sum_marked.ensures.sum f names long (λ lane low is.
      let has = (each lane low is).0 in
      let fits : f (slice_index names lane) ≤ 255 = (each lane low is).1 in
      let done = c.loop-lane.invariant.done lane (omega (arith, low, c.loop-lane-test.false)) in (
        record {
          count = c.loop-lane.invariant.length;
          within = low;
          value = omega (arith, done, has.value, fits);
        },
        omega (arith, fits),
      ));
}
