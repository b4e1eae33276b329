use Rattle.std.proofs.Common.{◌≡◌, ℕ, ◌+◌, ◌-◌, ◌<◌, ◌≤◌, ◌++◌, ◌∷◌, [], List, length, get_or, Err, Result, subst, ap}
use Rattle.std.proofs.Common.{sym, ◌∙◌, arith}
use Rattle.std.proofs.lemmas.Result.{err_from_is_err_and}
use Rattle.flow_shop.specs.Front.{IsFrontOf, IsWithinFront}
use Rattle.flow_shop.specs.Bound.{bound_of}
use Rattle.flow_search.specs.Search.{tree}
use Rattle.flow_search.specs.Plans.{Planned, prefix_of, best_of, tree_of}
use Rattle.flow_search.specs.internal.Nodes.{walked, found_if}
use Rattle.flow_search.specs.declared.state.SearchState.{SearchState}
use Rattle.flow_search.specs.declared.budget.SearchFault.{SearchFault}
use Rattle.flow_search.specs.declared.budget.SearchFault.TheVariants.{OverBudget}
use Rattle.flow_search.proofs.Nodes.{within-front}
use Rattle.flow_search.proofs.Prefixes.{admissible-of, way-goes-on, prefix-answered, prefix-over, best-sequence}
use Rattle.flow_search.proofs.outcome.search_prefix.Goals as goal
use Rattle.flow_search.proofs.outcome.search_prefix.Goals.{In_ok-explore}

pub front_push-requires-clause-within : goal.front_push-requires-clause-within
front_push-requires-clause-within c =
    subst (λ shop. IsWithinFront shop c.loop-job.front) (sym c.instance-instance.ensures.value)
    (within-front c.args.plan.now.shop c.loop-job.search.node.items c.loop-job.front c.loop-job.search.unscheduled
    (c.args.plan.now.shop.jobs - c.loop-job.job-index) c.loop-job.invariant.at)

pub loop-job-preserved : goal.loop-job-preserved
loop-job-preserved c =
    let plan : Planned = c.args.plan.now in
    let prefix : List ℕ = c.prefix-prefix.result.now in
    let deep : plan.options.depth ≤ plan.shop.jobs = c.prefix-prefix.ensures.plan.deep in
    let short : length prefix ≤ plan.shop.jobs = omega (arith, deep, c.prefix-prefix.ensures.size) in
    let within : c.loop-job.job-index < length prefix = c.loop-job-test.true in
    let front : IsFrontOf plan.shop (c.loop-job.search.node.items ++ get_or prefix c.loop-job.job-index 0
    ∷ []) c.front_push.new.front =
    subst (λ shop. IsFrontOf shop c.loop-job.search.node.items c.loop-job.front →
    IsFrontOf shop (c.loop-job.search.node.items ++ get_or prefix c.loop-job.job-index 0
    ∷ []) c.front_push.new.front)
    c.instance-instance.ensures.value
    (c.front_push.ensures.front c.loop-job.search.node.items) c.loop-job.invariant.at.is_front in
    way-goes-on plan prefix c.loop-job.front c.front_push.new.front c.loop-job.job-index c.loop-job.search
    c.enter.new.self c.prefix-prefix.ensures.jobs short within
    c.loop-job.invariant c.in_ok-enter.ensures front

pub returns-in_err-explore-clause-over : goal.returns-in_err-explore-clause-over
returns-in_err-explore-clause-over c e =
    let plan : Planned = c.args.plan.now in
    let prefix : List ℕ = c.prefix-prefix.result.now in
    let deep : plan.options.depth ≤ plan.shop.jobs = c.prefix-prefix.ensures.plan.deep in
    let short : length prefix ≤ plan.shop.jobs = omega (arith, deep, c.prefix-prefix.ensures.size) in
    let p = err_from_is_err_and c.from_residual-in_err-explore.result c.from_residual-in_err-explore.ensures.1 in
    let put : SearchFault → Result SearchState SearchFault = λ stop. Err stop in
    let put_unit : SearchFault → Result (Unit {0}) SearchFault = λ stop. Err stop in
    let was : p.0 ≡ OverBudget = let r : put p.0 ≡ put OverBudget = sym p.1 ∙ e in cc in
    let same : put_unit c.in_err-explore.field-0.0 ≡ put_unit OverBudget = ap put_unit (sym p.2 ∙ was) in
    let shop : c.instance-instance.result.now ≡ plan.shop = c.instance-instance.ensures.value in
    let jobs : c.jobs-jobs.result ≡ plan.shop.jobs = c.jobs-jobs.ensures.value ∙ ap (λ s. s.jobs) shop in
    let count : c.jobs-jobs.result - length prefix ≡ plan.shop.jobs - length prefix =
    ap (λ n. n - length prefix) jobs in
    let over : c.budget-budget.result < length c.loop-job.search.tree.items
    + length (walked plan.shop (bound_of c.version-version.result) (c.jobs-jobs.result - length prefix)
    c.loop-job.search).0 =
    subst (λ s. c.budget-budget.result < length c.loop-job.search.tree.items
    + length (walked s (bound_of c.version-version.result) (c.jobs-jobs.result - length prefix) c.loop-job.search).0)
    shop
    (c.in_err-explore.ensures.over same) in
    let longer : c.budget-budget.result < length (tree plan.shop (bound_of c.version-version.result) plan.start.value
    prefix) =
    prefix-over plan (bound_of c.version-version.result) (admissible-of c.version-version.result) prefix
    c.loop-job.front c.loop-job.job-index c.budget-budget.result
    (c.jobs-jobs.result - length prefix) c.loop-job.search c.prefix-prefix.ensures.jobs short
    count (omega arith) (omega arith) c.loop-job.invariant over in
    let named : length (tree plan.shop (bound_of c.version-version.result) plan.start.value prefix) ≡ length (tree_of
    plan c.args.number) =
    ap (λ q. length (tree plan.shop (bound_of c.version-version.result) plan.start.value q))
    c.prefix-prefix.ensures.value
    ∙ ap (λ b. length (tree plan.shop b plan.start.value (prefix_of plan c.args.number)))
    (ap bound_of (c.version-version.ensures.value ∙ ap (λ o. o.version) c.options-options.ensures.value)) in
    let budget : c.budget-budget.result ≡ plan.options.budget = c.budget-budget.ensures.value
    ∙ ap (λ o. o.budget) c.options-options.ensures.value in
    omega (arith, longer, named, budget)

-- what the prefix came to
answered : (c : In_ok-explore) → (found_if c.explore.new.search
    ≡ best_of c.args.plan.now c.args.number)
    × (c.explore.new.search.tree.items ≡ tree_of c.args.plan.now c.args.number)
answered c =
    let plan : Planned = c.args.plan.now in
    let prefix : List ℕ = c.prefix-prefix.result.now in
    let deep : plan.options.depth ≤ plan.shop.jobs = c.prefix-prefix.ensures.plan.deep in
    let short : length prefix ≤ plan.shop.jobs = omega (arith, deep, c.prefix-prefix.ensures.size) in
    prefix-answered plan (bound_of c.version-version.result) c.instance-instance.result.now prefix c.loop-job.front
    c.args.number c.loop-job.job-index
    c.budget-budget.result c.jobs-jobs.result c.loop-job.search c.explore.new.search
    (ap bound_of (c.version-version.ensures.value ∙ ap (λ o. o.version) c.options-options.ensures.value))
    (admissible-of c.version-version.result) c.instance-instance.ensures.value c.jobs-jobs.ensures.value
    c.prefix-prefix.ensures.value
    c.prefix-prefix.ensures.jobs short (omega arith) (omega arith) c.loop-job.invariant c.in_ok-explore.ensures.done

pub returns-clause-best : goal.returns-clause-best
returns-clause-best c = (answered (goal.at.returns-clause-best c).In_ok-explore).0

pub returns-clause-tree : goal.returns-clause-tree
returns-clause-tree c = (answered (goal.at.returns-clause-tree c).In_ok-explore).1

pub returns-clause-sequence : goal.returns-clause-sequence
returns-clause-sequence c improved =
    best-sequence c.args.plan.now c.args.number c.explore.new.search
    c.prefix-prefix.ensures.plan.deep c.requires
    (returns-clause-best c) improved
