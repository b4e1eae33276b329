use Rattle.std.proofs.Common.{◌≡◌, ◌≤◌, ◌+◌, length}
use Rattle.flow_text.specs.Lines.{lines_of}
use Rattle.flow_text.specs.internal.TextWalk.{walk}
use Rattle.flow_text.specs.internal.TextState.{state_of, start, Keeps}
use Rattle.flow_text.proofs.text.read.walk_text.Given as goal

-- the answer for the rest is the answer for the text
abbrev pub invariant-loop-rest : goal.invariant-loop-rest
invariant-loop-rest l = record {
  answer : walk (state_of l.progress) l.count (lines_of l.rest) ≡ walk start 0 (lines_of l.text);
  keeps : Keeps (state_of l.progress);
  few : l.count + length l.rest ≤ length l.text;
}

abbrev pub decreases-loop-rest : goal.decreases-loop-rest
decreases-loop-rest l = length l.rest
