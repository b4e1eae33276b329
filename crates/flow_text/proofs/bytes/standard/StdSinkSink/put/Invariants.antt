use Rattle.std.proofs.Common.{◌≡◌}
use Rattle.std.specs.Io.KnownBytes.{Keeps}
use Rattle.flow_text.proofs.bytes.standard.StdSinkSink.put.Given as goal

-- an interrupted write took nothing
abbrev pub invariant-loop : goal.invariant-loop
invariant-loop g l = record {
  kept : Keeps (g.W.Write.contents l.initial.self-inside.writer) (g.W.Write.contents l.self-inside.writer);
  failed : l.self-inside.failed ≡ l.initial.self-inside.failed;
}
