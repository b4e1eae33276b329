use Rattle.std.proofs.Common.{◌≡◌, ℕ, ◌+◌, ◌≤◌, Bool, Err, None, Some, Result, cond, slice_index, subst, ap, sym, ◌∙◌}
use Rattle.std.proofs.Common.{arith}
use Rattle.std.proofs.lemmas.Bool.{le-ltb}
use Rattle.std.proofs.lemmas.Result.{err_from_is_err_and}
use Rattle.flow_shop.specs.Bound.{bound_of}
use Rattle.flow_search.specs.internal.Nodes.{incumbent_of}
use Rattle.flow_search.specs.internal.Columns.{IsUnprunedCount, child}
use Rattle.flow_search.specs.declared.budget.SearchFault.{SearchFault}
use Rattle.flow_search.specs.declared.budget.SearchFault.TheVariants.{OverBudget}
use Rattle.flow_search.proofs.NextChild.{walk-some}
use Rattle.flow_search.proofs.UnprunedFound.{count-found}
use Rattle.flow_search.proofs.ColumnsWalked.{unpruned-here, column-pruned}
use Rattle.flow_search.proofs.few_left.walk.visit_column.Goals as goal
use Rattle.flow_search.proofs.few_left.walk.visit_column.Goals.{After-machines-machines}

-- the test of the child, where it leaves a job
tested : (c : After-machines-machines) → 1 ≤ c.args.left →
    IsUnprunedCount c.args.setting.now.instance.now (bound_of c.args.setting.now.version) (child
    c.args.search.now.node.items c.args.group.now c.args.column)
    c.args.search.now.value c.args.setting.now.instance.now.machines
    (slice_index c.args.frame.now.unpruned c.args.column)
tested c some =
    subst (λ value. IsUnprunedCount c.args.setting.now.instance.now (bound_of c.args.setting.now.version)
    (child c.args.search.now.node.items c.args.group.now c.args.column)
    value c.args.setting.now.instance.now.machines (slice_index c.args.frame.now.unpruned c.args.column))
    c.requires.value
    (unpruned-here c.args.setting.now.instance.now (bound_of c.args.setting.now.version) c.args.search.now.node.items
    c.args.group.now c.args.frame.now
    c.args.column
    c.requires.tested c.requires.left (omega (arith, some, c.requires.count)))

pub returns-in_err-write-2-clause-over : goal.returns-in_err-write-2-clause-over
returns-in_err-write-2-clause-over c e =
    let p = err_from_is_err_and c.from_residual-in_err-write-2.result c.from_residual-in_err-write-2.ensures.1 in
    let put : SearchFault → Result (Unit {0}) SearchFault = λ stop. Err stop in
    let put_bool : SearchFault → Result Bool SearchFault = λ stop. Err stop in
    let was : p.0 ≡ OverBudget = let r : put_bool p.0 ≡ put_bool OverBudget = sym p.1 ∙ e in cc in
    let same : put c.in_err-write-2.field-0.0 ≡ put OverBudget = ap put (sym p.2 ∙ was) in
    omega (
      arith,
      c.in_err-write-2.ensures.over same,
      walk-some c.args.setting.now.instance.now (bound_of c.args.setting.now.version) c.args.left
          (child c.args.search.now.node.items c.args.group.now c.args.column)
          (incumbent_of c.args.search.now),
    )

pub returns-in_err-write-3-clause-over : goal.returns-in_err-write-3-clause-over
returns-in_err-write-3-clause-over c e =
    let p = err_from_is_err_and c.from_residual-in_err-write-3.result c.from_residual-in_err-write-3.ensures.1 in
    let put : SearchFault → Result (Unit {0}) SearchFault = λ stop. Err stop in
    let put_bool : SearchFault → Result Bool SearchFault = λ stop. Err stop in
    let was : p.0 ≡ OverBudget = let r : put_bool p.0 ≡ put_bool OverBudget = sym p.1 ∙ e in cc in
    let same : put c.in_err-write-3.field-0.0 ≡ put OverBudget = ap put (sym p.2 ∙ was) in
    omega (
      arith,
      c.in_err-write-3.ensures.over same,
      walk-some c.args.setting.now.instance.now (bound_of c.args.setting.now.version) c.args.left
          (child c.args.search.now.node.items c.args.group.now c.args.column)
          (incumbent_of c.args.search.now),
    )

pub returns-then-unpruned-machines-clause-whole : goal.returns-then-unpruned-machines-clause-whole
returns-then-unpruned-machines-clause-whole c e =
    let some : 1 ≤ c.args.left = omega (arith, c.if-left-eq0.false) in
    column-pruned c.args.setting.now.instance.now (bound_of c.args.setting.now.version) c.args.setting.now.budget
    c.args.left
    (slice_index c.args.frame.now.unpruned c.args.column)
    c.args.group.now c.args.column c.args.search.now c.write-then-unpruned-machines.new.self some
    (tested (goal.at.returns-then-unpruned-machines-clause-whole c).After-machines-machines some)
    (omega (arith, c.if-unpruned-machines.true, c.machines-machines.ensures.value)) c.in_ok-write-2.ensures.done

pub returns-clause-opens : goal.returns-clause-opens
returns-clause-opens c e =
    let some : 1 ≤ c.args.left = omega (arith, c.if-left-eq0.false) in
    let unpruned : ℕ = slice_index c.args.frame.now.unpruned c.args.column in
    let high : c.args.setting.now.instance.now.machines ≤ unpruned =
    omega (arith, c.if-unpruned-machines.false, c.machines-machines.ensures.value) in
    record {
      wrote = c.in_ok-write-3.ensures.done;
      unpruned =
          count-found c.args.setting.now.instance.now (bound_of c.args.setting.now.version) (child
          c.args.search.now.node.items c.args.group.now c.args.column)
          c.args.search.now.value unpruned (tested (goal.at.returns-clause-opens c).After-machines-machines some)
          ∙ ap (λ b. cond b (Some (unpruned + 1)) None) (le-ltb unpruned c.args.setting.now.instance.now.machines high);
    }

pub returns-in_err-write-clause-over : goal.returns-in_err-write-clause-over
returns-in_err-write-clause-over c e =
    let p = err_from_is_err_and c.from_residual.result c.from_residual.ensures.1 in
    let put : SearchFault → Result (Unit {0}) SearchFault = λ fault. Err fault in
    let put_bool : SearchFault → Result Bool SearchFault = λ fault. Err fault in
    let was : p.0 ≡ OverBudget = let r : put_bool p.0 ≡ put_bool OverBudget = sym p.1 ∙ e in cc in
    let same : put c.in_err-write.field-0.0 ≡ put OverBudget = ap put (sym p.2 ∙ was) in
    omega (
      arith,
      c.in_err-write.ensures.over same,
      walk-some c.args.setting.now.instance.now (bound_of c.args.setting.now.version) c.args.left
          (child c.args.search.now.node.items c.args.group.now c.args.column)
          (incumbent_of c.args.search.now),
    )
