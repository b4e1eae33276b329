use Rattle.std.proofs.Common.{◌≡◌, ◌≤◌, ◌++◌, drop, true, IfSome}
use Rattle.flow_text.specs.Lines.{numbers_of, are_small, is_plain}
use Rattle.flow_limits.specs.Limits.{greatest_number}
use Rattle.flow_text.proofs.NumberLemmas.{numbers_after}
use Rattle.flow_text.proofs.text.line.numbers_in.Given as goal

-- the numbers so far and those of the rest are the numbers of the line, which has digits and blanks alone so far
abbrev pub invariant-loop-byte : goal.invariant-loop-byte
invariant-loop-byte l = record {
  plain : is_plain l.line ≡ is_plain (drop l.byte-index l.line);
  split : l.numbers.items ++ numbers_after l.begun (drop l.byte-index l.line) ≡ numbers_of l.line;
  small : are_small l.numbers.items ≡ true;
  begun_small : IfSome l.begun (λ n. n ≤ greatest_number);
}
