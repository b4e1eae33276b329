use Rattle.std.proofs.Common.{◌≡◌, ◌≤◌, take}
use Rattle.std.specs.List.{count_by}
use Rattle.flow_commands.specs.Report.{is_direction}
use Rattle.flow_commands.proofs.report.directions.Given as goal

abbrev pub invariant-loop-byte : goal.invariant-loop-byte
invariant-loop-byte l = record {
  counted : l.count ≡ count_by is_direction (take l.byte-index l.text);
  few : l.count ≤ l.byte-index;
}
