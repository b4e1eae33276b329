use Rattle.std.proofs.Common.{◌≡◌, ◌≤◌, ◌+◌, length}
use Rattle.flow_text.specs.Lines.{lines_of}
use Rattle.flow_text.specs.StartText.{solid_lines}
use Rattle.flow_text.proofs.text.start.first_solid_line.Given as goal

-- the lines so far are blank
abbrev pub invariant-loop-rest : goal.invariant-loop-rest
invariant-loop-rest l = record {
  solid : solid_lines l.number (lines_of l.rest) ≡ solid_lines l.from (lines_of l.text);
  count : l.number + length (lines_of l.rest) ≡ l.from + length (lines_of l.text);
  fewer : l.number + length l.rest ≤ l.from + length l.text;
}

abbrev pub decreases-loop-rest : goal.decreases-loop-rest
decreases-loop-rest l = length l.rest
