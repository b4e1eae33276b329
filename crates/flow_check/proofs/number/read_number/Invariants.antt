use Rattle.std.proofs.Common.{◌≡◌, nat_lt, false, drop}
use Rattle.flow_check.proofs.Numerals.{scan}
use Rattle.flow_check.proofs.number.read_number.Given as goal

-- the number is that after the digits before this one
abbrev pub invariant-loop-index : goal.invariant-loop-index
invariant-loop-index l = scan l.end 0 false l.text ≡ scan l.end l.value (nat_lt 0 l.index) (drop l.index l.text)
