use Rattle.std.proofs.Common.{◌≡◌, suc, [], Ok, Err, arith}
use Rattle.flow_shop.specs.Shop.{Shop}
use Rattle.flow_check.specs.internal.Reader.{Stands}
use Rattle.flow_check.specs.declared.reader.TreeReader.{TreeReader}
use Rattle.flow_check.proofs.Exits.{exit}
use Rattle.flow_check.proofs.TreesGiven.{trees-ok, trees-fail, cut-line, cut-lines}
use Rattle.flow_check.proofs.trees.trees_end.Goals as goal

-- at the empty list all jobs are left
all-left : (shop : Shop) (reader : TreeReader) → Stands shop [] reader → suc reader.child_left ≡ shop.jobs
all-left shop reader stands = omega (arith, stands.at.is_node.count)

pub returns-in_err-end : goal.returns-in_err-end
returns-in_err-end c =
    trees-fail c.args.instance.now c.args.heading.now.version c.args.heading.now.depth c.args.heading.now.value
    c.args.heading.now.trees.now
    c.from_residual-in_err-end.result c.in_err-end.field-0.0
    (exit c.from_residual-in_err-end.result c.in_err-end.field-0.0 c.from_residual-in_err-end.ensures.1)
    (cut-line c.args.instance.now c.args.heading.now.version c.args.heading.now.depth c.args.heading.now.value
    (suc c.in_ok-reader.reader.child_left) c.args.heading.now.trees.now
    (Err c.in_err-end.field-0.0)
    (all-left c.args.instance.now c.in_ok-reader.reader c.in_ok-reader.ensures) c.if-heading-eq0.true
    (c.in_err-end.ensures.lines [] c.in_ok-reader.ensures))

pub returns-then-heading-eq0 : goal.returns-then-heading-eq0
returns-then-heading-eq0 c =
    trees-ok c.args.instance.now c.args.heading.now.version c.args.heading.now.depth c.args.heading.now.value
    c.args.heading.now.trees.now
    c.in_ok-end.end c.in_ok-end.ensures.within.0
    (cut-line c.args.instance.now c.args.heading.now.version c.args.heading.now.depth c.args.heading.now.value
    (suc c.in_ok-reader.reader.child_left) c.args.heading.now.trees.now (Ok c.in_ok-end.end)
    (all-left c.args.instance.now c.in_ok-reader.reader c.in_ok-reader.ensures) c.if-heading-eq0.true
    (c.in_ok-end.ensures.lines [] c.in_ok-reader.ensures))

pub returns-in_err-end-2 : goal.returns-in_err-end-2
returns-in_err-end-2 c =
    trees-fail c.args.instance.now c.args.heading.now.version c.args.heading.now.depth c.args.heading.now.value
    c.args.heading.now.trees.now
    c.from_residual-in_err-end-2.result c.in_err-end-2.field-0.0
    (exit c.from_residual-in_err-end-2.result c.in_err-end-2.field-0.0 c.from_residual-in_err-end-2.ensures.1)
    (cut-lines c.args.instance.now c.args.heading.now.version c.args.heading.now.depth c.args.heading.now.value
    (suc c.in_ok-reader.reader.child_left) c.args.heading.now.trees.now (Err c.in_err-end-2.field-0.0)
    (all-left c.args.instance.now c.in_ok-reader.reader c.in_ok-reader.ensures)
    (c.in_err-end-2.ensures.lines [] c.in_ok-reader.ensures))

pub returns : goal.returns
returns c =
    trees-ok c.args.instance.now c.args.heading.now.version c.args.heading.now.depth c.args.heading.now.value
    c.args.heading.now.trees.now
    c.in_ok-end-2.end c.in_ok-end-2.ensures.within.0
    (cut-lines c.args.instance.now c.args.heading.now.version c.args.heading.now.depth c.args.heading.now.value
    (suc c.in_ok-reader.reader.child_left) c.args.heading.now.trees.now (Ok c.in_ok-end-2.end)
    (all-left c.args.instance.now c.in_ok-reader.reader c.in_ok-reader.ensures)
    (c.in_ok-end-2.ensures.lines [] c.in_ok-reader.ensures))
