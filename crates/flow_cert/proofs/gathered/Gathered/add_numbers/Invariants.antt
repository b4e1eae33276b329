use Rattle.std.proofs.Common.{◌≡◌, false, take}
use Rattle.flow_check.specs.TextLines.{spaced}
use Rattle.flow_cert.specs.internal.Gathered.{HandsOn}
use Rattle.flow_cert.proofs.WrittenLines.{gap_behind}
use Rattle.flow_cert.proofs.gathered.Gathered.add_numbers.Given as goal

-- the numbers so far were handed on
abbrev pub invariant-loop-number : goal.invariant-loop-number
invariant-loop-number g l = record {
  works : g.S.Sink.has_failed l.out ≡ false;
  gap : l.gap ≡ gap_behind (take l.number-index l.numbers);
  handed : HandsOn (g.S.Sink.taken l.initial.out) (g.S.Sink.taken l.out) l.initial.self (spaced
      (take l.number-index l.numbers)) l.self;
}
