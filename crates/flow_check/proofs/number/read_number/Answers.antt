use Rattle.flow_check.proofs.Numerals.{found-at, only-at, none-past, none-other}
use Rattle.flow_check.proofs.number.read_number.Goals as goal

pub returns-then-byte-end-clause-found : goal.returns-then-byte-end-clause-found
returns-then-byte-end-clause-found c =
    found-at c.args.end c.loop-index.value c.loop-index.index c.args.text.now c.loop-index.invariant c.if-index-gt0.true
    c.loop-index-test.true c.if-byte-end.true

pub returns-then-byte-end-clause-only : goal.returns-then-byte-end-clause-only
returns-then-byte-end-clause-only c =
    only-at c.args.end c.loop-index.value c.loop-index.index c.args.text.now c.requires c.loop-index.invariant
    c.if-index-gt0.true c.loop-index-test.true c.if-byte-end.true

pub returns-in_err-value-clause-only : goal.returns-in_err-value-clause-only
returns-in_err-value-clause-only c n rest h =
    absurd (none-other c.args.end c.loop-index.value c.loop-index.index c.args.text.now c.requires
    c.loop-index.invariant c.loop-index-test.true c.else-index-gt0.either c.in_err-value.ensures n rest h)

pub returns-clause-only : goal.returns-clause-only
returns-clause-only c =
    none-past c.args.end c.loop-index.value c.loop-index.index c.args.text.now c.requires c.loop-index.invariant
    c.loop-index-test.false
