use Rattle.std.proofs.Common.{◌≡◌, ◌++◌}
use Rattle.flow_text.specs.Written.{rows_text}
use Rattle.flow_text.proofs.text.write.block_text.Given as goal

-- the rows of so many machines are written
abbrev pub invariant-loop-machine : goal.invariant-loop-machine
invariant-loop-machine l = l.out.items ≡ l.initial.out.items ++ rows_text l.block.instance l.machine
