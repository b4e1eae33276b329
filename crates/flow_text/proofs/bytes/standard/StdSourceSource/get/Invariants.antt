use Rattle.std.proofs.Common.{◌≡◌}
use Rattle.std.specs.Io.KnownBytes.{Keeps}
use Rattle.flow_text.proofs.bytes.standard.StdSourceSource.get.Given as goal

-- an interrupted read gave nothing
abbrev pub invariant-loop : goal.invariant-loop
invariant-loop g l = record {
  kept : Keeps (g.R.Read.remaining l.initial.self-inside.reader) (g.R.Read.remaining l.self-inside.reader);
  failed : l.self-inside.failed ≡ l.initial.self-inside.failed;
}
