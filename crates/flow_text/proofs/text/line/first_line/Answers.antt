use Rattle.std.proofs.Common.{arith}
use Rattle.std.proofs.lemmas.Grind.{common_steps}
use Rattle.flow_text.proofs.LineLemmas.{lines_of-split, lines_of-last}
use Rattle.flow_text.proofs.text.line.first_line.Goals as goal

pub returns-then-byte-eq10-clause-lines : goal.returns-then-byte-eq10-clause-lines
returns-then-byte-eq10-clause-lines c =
    lines_of-split c.args.text.now _ _ c.loop-i.i c.loop-i-test.true c.if-byte-eq10.true c.loop-i.invariant
    c.split_at.ensures.front c.split_at.ensures.back

pub returns-clause-lines : goal.returns-clause-lines
returns-clause-lines c =
    let whole = lines_of-last c.args.text.now (omega arith) (λ k h. c.loop-i.invariant k (omega arith)) in
    rw (c.split_at-2.ensures.front, c.split_at-2.ensures.back) (grind (arith, common_steps, whole))
