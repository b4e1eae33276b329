use Rattle.std.proofs.Common.{suc, ◌+◌, drop, refl, subst, arith}
use Rattle.flow_check.specs.internal.Reader.{children_read}
use Rattle.flow_check.specs.internal.PartsGive.{TreeGives}
use Rattle.flow_shop.specs.Bound.{bound_of}
use Rattle.flow_check.specs.internal.ReadTrees.{read_tree}
use Rattle.flow_check.proofs.Exits.{exit}
use Rattle.flow_check.proofs.TreeReading.{letter-open, letter-whole, plus-gives, tree-fails}
use Rattle.flow_check.proofs.reader.TreeReader.read_own.Goals as goal

pub returns-in_err-open : goal.returns-in_err-open
returns-in_err-open c list stands =
    tree-fails c.args.spot.at c.args.text.now.bytes.now
    (read_tree c.args.text.now.shop.now (bound_of c.args.text.now.version) c.args.text.now.value c.args.spot.line
    (suc c.args.self.now.child_left) list
    (drop c.args.spot.at c.args.text.now.bytes.now)) c.from_residual.result c.in_err-open.field-0.0
    (exit c.from_residual.result c.in_err-open.field-0.0 c.from_residual.ensures.1)
    (c.in_err-open.ensures.gives list stands tt)

pub returns-then-not-open : goal.returns-then-not-open
returns-then-not-open c list stands =
    let is = letter-whole c.args.text.now.shop.now c.args.text.now.version c.args.text.now.value c.args.spot.line
    (suc c.args.self.now.child_left) list c.args.spot.at c.args.text.now.bytes.now c.in_ok-open.open
    (c.in_ok-open.ensures.gives list stands tt) c.if-not-open.true in
    (is.1, omega arith, omega (arith, is.0))

pub read_children-requires-clause-at : goal.read_children-requires-clause-at
read_children-requires-clause-at c = (c.requires.at.0, c.read_letter.ensures.back.kept c.requires.at.0 c.requires.at.1)

pub read_children-requires-clause-within : goal.read_children-requires-clause-within
read_children-requires-clause-within c =
    let is = letter-open c.args.text.now.shop.now c.args.text.now.version c.args.text.now.value c.args.spot.line
    (suc c.args.self.now.child_left) c.requires.at.0 c.args.spot.at c.args.text.now.bytes.now c.in_ok-open.open
    (c.in_ok-open.ensures.gives c.requires.at.0 c.requires.at.1 tt) c.if-not-open.false in
    omega (arith, is.1)

pub returns : goal.returns
returns c list stands =
    let is = letter-open c.args.text.now.shop.now c.args.text.now.version c.args.text.now.value c.args.spot.line
    (suc c.args.self.now.child_left) list c.args.spot.at c.args.text.now.bytes.now c.in_ok-open.open
    (c.in_ok-open.ensures.gives list stands tt) c.if-not-open.false in
    let children = c.read_children.ensures.trees list (c.read_letter.ensures.back.kept list stands) in
    plus-gives c.args.text.now.shop.now c.args.text.now.version c.args.text.now.value c.args.spot.line list
    (suc c.args.self.now.child_left) c.args.self.now.child_left c.args.spot.at c.args.text.now.bytes.now 43
    c.read_children.result refl refl is.2
    (subst (λ b. TreeGives (c.args.spot.at
    + 1) c.args.text.now.bytes.now c.read_children.result
    (children_read c.args.text.now.shop.now c.args.text.now.version c.args.text.now.value c.args.spot.line b list
    (drop
    (c.args.spot.at + 1) c.args.text.now.bytes.now))) c.read_letter.ensures.back.child_left children)
