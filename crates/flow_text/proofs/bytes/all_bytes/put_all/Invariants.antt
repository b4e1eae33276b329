use Rattle.std.proofs.Common.{length, take, ◌-◌, ◌≡◌, ◌≤◌, false, []}
use Rattle.std.specs.Io.KnownBytes.{Appends}
use Rattle.flow_text.proofs.bytes.all_bytes.put_all.Given as goal

-- what was put so far is the front of the bytes
abbrev pub invariant-loop-done : goal.invariant-loop-done
invariant-loop-done g l = record {
  within : l.done ≤ length l.bytes;
  put : Appends (g.S.Sink.taken l.initial.sink) (g.S.Sink.taken l.sink) (take l.done l.bytes);
  works : g.S.Sink.has_failed l.sink ≡ false;
  nothing : l.bytes ≡ [] → l.sink ≡ l.initial.sink;
}

abbrev pub decreases-loop-done : goal.decreases-loop-done
decreases-loop-done g l = length l.bytes - l.done
