use Rattle.std.proofs.Common.{◌≡◌, ◌*◌, length, take}
use Rattle.flow_limits.specs.Limits.{most_machines}
use Rattle.flow_shop.specs.Front.{IsFrontOf}
use Rattle.flow_c.proofs.span.span_of.Given as goal

abbrev pub invariant-loop-pair : goal.invariant-loop-pair
invariant-loop-pair l = record {
  length : length l.front ≡ most_machines;
  front : IsFrontOf l.instance (take (2 * l.pair) l.sequence) l.front;
}
