use Rattle.std.proofs.Common.{◌≡◌, ◌==◌, ◌≤◌, take}
use Rattle.std.specs.List.{count_by}
use Rattle.flow_core.specs.Characters.{line_feed}
use Rattle.flow_commands.proofs.report.line_ends.Given as goal

abbrev pub invariant-loop-byte : goal.invariant-loop-byte
invariant-loop-byte l = record {
  counted : l.count ≡ count_by (λ byte. byte == line_feed) (take l.byte-index l.text);
  few : l.count ≤ l.byte-index;
}
