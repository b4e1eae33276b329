use Rattle.std.proofs.Common.{◌-◌, ◌+◌, ◌≡◌, false, vec_len}
use Rattle.std.specs.Io.KnownBytes.{Appends}
use Rattle.flow_text.specs.Bytes.{IsWithinBy}
use Rattle.flow_text.proofs.bytes.all_bytes.read_by_begin.Given as goal

-- all is what the source gave in the call, and it may be so long
abbrev pub invariant-calls : goal.invariant-calls
invariant-calls g l = record {
  within : IsWithinBy l.begin l.limit l.long l.all.items;
  came : Appends (g.S.Source.given l.initial.source) (g.S.Source.given l.source) l.all.items;
  works : g.S.Source.has_failed l.source ≡ false;
}

abbrev pub decreases-calls : goal.decreases-calls
decreases-calls g l = l.long + 1 - vec_len l.all
