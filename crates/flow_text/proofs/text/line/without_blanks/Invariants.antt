use Rattle.std.proofs.Common.{◌≡◌, drop}
use Rattle.flow_text.specs.Lines.{after_blanks}
use Rattle.flow_text.proofs.text.line.without_blanks.Given as goal

-- blanks alone so far
abbrev pub invariant-loop-i : goal.invariant-loop-i
invariant-loop-i l = after_blanks l.line ≡ after_blanks (drop l.i l.line)
