use Rattle.std.proofs.Common.{◌≡◌, length, drop}
use Rattle.flow_c.specs.Makespans.{AreSpans}
use Rattle.flow_c.proofs.makespans.put_spans.Given as goal

-- the makespans so far, and the rest as it was
abbrev pub invariant-loop-index : goal.invariant-loop-index
invariant-loop-index l = record {
  length : length l.spans ≡ length l.initial.spans;
  values : AreSpans l.instance l.sequences l.index l.spans;
  rest : drop l.count l.spans ≡ drop l.count l.initial.spans;
}
