use Rattle.std.proofs.Common.{inr}
use Rattle.std.proofs.lemmas.Result.{err_from_is_err_and}
use Rattle.flow_c.proofs.Told.{leaves-short, come-too-long}
use Rattle.flow_c.proofs.came.search.Goals as goal

pub told-requires : goal.told-requires
told-requires g c =
    leaves-short c.args.instance.now c.args.threshold c.args.limits.budget c.args.node.now
    c.in_ok-came.ensures.came.0 c.requires.limits c.in_ok-came.came c.in_ok-came.ensures.came.2

pub returns-in_err-need-clause-refused : goal.returns-in_err-need-clause-refused
returns-in_err-need-clause-refused g c =
    let p = err_from_is_err_and c.from_residual-in_err-need.result c.from_residual-in_err-need.ensures.1 in
    rw (p.1, p.2)
    (inr (come-too-long c.args.instance.now c.args.threshold c.args.limits.budget c.args.node.now c.args.limits.rest
    c.in_err-need.field-0.0 c.in_ok-came.ensures.came.0 c.in_ok-came.came c.in_ok-told.told
    c.in_ok-came.ensures.came.2 c.in_ok-told.ensures
    (rw (c.len.ensures, c.in_ok-told.told.rest.ok.0) at c.in_err-need.ensures.short)))
