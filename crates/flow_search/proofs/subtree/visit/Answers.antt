use Rattle.std.proofs.Common.{◌≡◌, suc, ◌-◌, [], ◌∷◌, ◌++◌, Bool, Err, Result, sym, subst, ap, ◌∙◌, arith}
use Rattle.std.proofs.lemmas.Result.{err_from_is_err_and}
use Rattle.flow_shop.specs.Bound.{bound_of}
use Rattle.flow_search.specs.internal.Frames.{IsFrame}
use Rattle.flow_search.specs.internal.Nodes.{IsAt, incumbent_of}
use Rattle.flow_search.specs.declared.budget.SearchFault.{SearchFault}
use Rattle.flow_search.specs.declared.budget.SearchFault.TheVariants.{OverBudget}
use Rattle.flow_search.proofs.Nodes.{machine-is}
use Rattle.flow_search.proofs.Resume.{pruned-done}
use Rattle.flow_search.proofs.NextChild.{walk-some}
use Rattle.flow_search.proofs.subtree.visit.Goals as goal

pub pruning_of_child-requires-clause-at : goal.pruning_of_child-requires-clause-at
pruning_of_child-requires-clause-at c =
    let more : c.args.left ≡ suc (c.args.left - 1) = omega (arith, c.requires.many) in (
      c.args.left - 1,
      subst (λ n. IsAt c.args.setting.now.instance.now c.args.search.now.node.items c.args.here.now.front
          c.args.search.now.unscheduled (suc n)) more c.requires.at,
      subst (λ n. IsFrame c.args.setting.now.instance.now c.args.search.now.node.items (suc n) c.args.here.now) more
          c.requires.frame,
    )

pub overflow_cast-machine : goal.overflow_cast-machine
overflow_cast-machine c =
    let shop = c.args.setting.now.instance.now in
    let is = machine-is shop _ c.in-Some.machine c.args.setting.now.are_rows.limits (sym c.in-Some.is
    ∙ c.pruning_of_child.ensures) in
    omega (arith, is.1)

pub overflow_add-machine : goal.overflow_add-machine
overflow_add-machine c =
    let shop = c.args.setting.now.instance.now in
    let is = machine-is shop _ c.in-Some.machine c.args.setting.now.are_rows.limits (sym c.in-Some.is
    ∙ c.pruning_of_child.ensures) in
    omega (arith, is.1)

pub returns-in-Some-clause-whole : goal.returns-in-Some-clause-whole
returns-in-Some-clause-whole c e =
    pruned-done c.args.setting.now.instance.now (bound_of c.args.setting.now.version) c.args.setting.now.budget
    c.args.left c.args.job c.in-Some.machine
    c.args.search.now c.write.new.self
    (omega (arith, c.requires.many)) (sym c.in-Some.is
    ∙ c.pruning_of_child.ensures) c.in_ok-write.ensures.done

pub returns-clause-opens : goal.returns-clause-opens
returns-clause-opens c e = record {
  wrote = c.in_ok-write-2.ensures.done;
  unpruned = sym (c.pruning_of_child.ensures) ∙ c.in_default.is;
}

pub walk_small-requires-clause-unpruned : goal.walk_small-requires-clause-unpruned
walk_small-requires-clause-unpruned c = sym (c.pruning_of_child.ensures)
    ∙ c.in_default.is

pub returns-clause-more : goal.returns-clause-more
returns-clause-more c e = omega (arith, c.requires.many, c.if-left-eq-FEW.false)

pub returns-in_err-write-clause-over : goal.returns-in_err-write-clause-over
returns-in_err-write-clause-over c e =
    let p = err_from_is_err_and c.from_residual.result c.from_residual.ensures.1 in
    let put : SearchFault → Result (Unit {0}) SearchFault = λ stop. Err stop in
    let put_bool : SearchFault → Result Bool SearchFault = λ stop. Err stop in
    let was : p.0 ≡ OverBudget = let r : put_bool p.0 ≡ put_bool OverBudget = sym p.1 ∙ e in cc in
    let same : put c.in_err-write.field-0.0 ≡ put OverBudget = ap put (sym p.2 ∙ was) in
    omega (
      arith,
      c.in_err-write.ensures.over same,
      walk-some c.args.setting.now.instance.now (bound_of c.args.setting.now.version) c.args.left
          (c.args.search.now.node.items ++ c.args.job ∷ []) (incumbent_of c.args.search.now),
    )

pub returns-in_err-write-2-clause-over : goal.returns-in_err-write-2-clause-over
returns-in_err-write-2-clause-over c e =
    let p = err_from_is_err_and c.from_residual-in_err-write-2.result c.from_residual-in_err-write-2.ensures.1 in
    let put : SearchFault → Result (Unit {0}) SearchFault = λ stop. Err stop in
    let put_bool : SearchFault → Result Bool SearchFault = λ stop. Err stop in
    let was : p.0 ≡ OverBudget = let r : put_bool p.0 ≡ put_bool OverBudget = sym p.1 ∙ e in cc in
    let same : put c.in_err-write-2.field-0.0 ≡ put OverBudget = ap put (sym p.2 ∙ was) in
    omega (
      arith,
      c.in_err-write-2.ensures.over same,
      walk-some c.args.setting.now.instance.now (bound_of c.args.setting.now.version) c.args.left
          (c.args.search.now.node.items ++ c.args.job ∷ []) (incumbent_of c.args.search.now),
    )
