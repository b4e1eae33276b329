use Rattle.flow_check.proofs.SequenceLine.{IsDone}
use Rattle.flow_check.proofs.heading.read_sequence_line.Given as goal

abbrev pub invariant-loop-place : goal.invariant-loop-place
invariant-loop-place l = IsDone l.instance l.text l.place l.scheduled l.front l.rest l.found.items
