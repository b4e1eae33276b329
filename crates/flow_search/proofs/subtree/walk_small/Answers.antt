use Rattle.std.proofs.Common.{◌≡◌, suc, [], ◌∷◌, ◌++◌, Err, Result, refl, sym, subst, ◌∙◌, ap}
use Rattle.std.proofs.lemmas.Result.{err_from_is_err_and}
use Rattle.flow_shop.specs.Bound.{bound_of}
use Rattle.flow_search.specs.internal.Nodes.{IsAt, Walked, incumbent_of}
use Rattle.flow_search.specs.declared.budget.SearchFault.{SearchFault}
use Rattle.flow_search.specs.declared.budget.SearchFault.TheVariants.{OverBudget}
use Rattle.flow_search.proofs.Nodes.{at-child, within-front}
use Rattle.flow_search.proofs.Resume.{child-done, child-over}
use Rattle.flow_search.proofs.ColumnsWalked.{IsUnpruned, unpruned-child, node-done, node-over}
use Rattle.flow_search.proofs.subtree.walk_small.Goals as goal
use Rattle.flow_search.proofs.subtree.walk_small.Goals.{In_ok-write}

pub front_push-requires-clause-within : goal.front_push-requires-clause-within
front_push-requires-clause-within c =
    within-front c.args.setting.now.instance.now c.args.search.now.node.items c.args.front c.args.search.now.unscheduled
    (suc c.args.left) c.requires.at

pub walk_few-requires-clause-at : goal.walk_few-requires-clause-at
walk_few-requires-clause-at c =
    let shop = c.args.setting.now.instance.now in
    let old = c.args.search.now in
    let in_child = c.in_ok-enter.ensures in
    let wrote = c.in_ok-write.ensures.done in
    let kid = at-child shop old.node.items c.args.front c.front_push.new.front old.unscheduled
    (suc c.args.left) c.args.left c.args.job
    c.requires.at refl c.requires.job.from c.requires.job.to c.requires.job.left
    (c.front_push.ensures.front old.node.items c.requires.at.is_front) in
    subst (λ q. IsAt shop q c.front_push.new.front c.write.new.self.unscheduled c.args.left) (sym (wrote.node
    ∙ in_child.node))
    (subst (λ u. IsAt shop (old.node.items ++ c.args.job
    ∷ []) c.front_push.new.front u c.args.left) (sym (wrote.unscheduled ∙ in_child.unscheduled)) kid)

-- no machine prunes the child that was entered
unpruned : (c : In_ok-write) →
    IsUnpruned c.args.setting.now.instance.now (bound_of c.args.setting.now.version) c.args.left
    c.enter.new.self.node.items (incumbent_of c.enter.new.self)
unpruned c = unpruned-child c.args.setting.now.instance.now (bound_of c.args.setting.now.version) c.args.left c.args.job
    c.args.search.now c.enter.new.self
    c.requires.some c.in_ok-enter.ensures c.requires.unpruned

pub returns-in_err-walk_few-clause-over : goal.returns-in_err-walk_few-clause-over
returns-in_err-walk_few-clause-over c e =
    let shop = c.args.setting.now.instance.now in
    let p = err_from_is_err_and c.from_residual-in_err-walk_few.result c.from_residual-in_err-walk_few.ensures.1 in
    let put : SearchFault → Result (Unit {0}) SearchFault = λ stop. Err stop in
    let same : put c.in_err-walk_few.field-0.0 ≡ put OverBudget = ap put (sym p.2) ∙ sym p.1 ∙ e in
    child-over shop (bound_of c.args.setting.now.version) c.args.setting.now.budget c.args.left c.args.job
    c.args.search.now c.enter.new.self
    c.in_ok-enter.ensures
    (node-over shop (bound_of c.args.setting.now.version) c.args.setting.now.budget c.args.left c.enter.new.self
    c.write.new.self
    (unpruned (goal.at.returns-in_err-walk_few-clause-over c).In_ok-write) c.in_ok-write.ensures.done
    (c.in_err-walk_few.ensures.over same))

pub returns-clause-done : goal.returns-clause-done
returns-clause-done c =
    let shop = c.args.setting.now.instance.now in
    let old = c.args.search.now in
    let w : Walked shop (bound_of c.args.setting.now.version) c.args.setting.now.budget c.args.left c.enter.new.self
    c.walk_few.new.search =
    node-done shop (bound_of c.args.setting.now.version) c.args.setting.now.budget c.args.left c.enter.new.self
    c.write.new.self c.walk_few.new.search
    (unpruned (goal.at.returns-clause-done c).In_ok-write) c.in_ok-write.ensures.done c.in_ok-walk_few.ensures.done in
    child-done shop (bound_of c.args.setting.now.version) c.args.setting.now.budget c.args.left c.args.job old
    c.enter.new.self c.walk_few.new.search
    c.leave.new.self
    c.in_ok-enter.ensures w (c.leave.ensures old.node.items (w.node ∙ c.in_ok-enter.ensures.node)) c.requires.job.left
