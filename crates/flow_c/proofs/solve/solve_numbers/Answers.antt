use Rattle.std.proofs.lemmas.Result.{IfErr-weaker}
use Rattle.flow_c.specs.Faults.{shop_of, options_of, plan_of, choice_fault, makespan_fault}
use Rattle.flow_c.specs.Faults.{planning_fault, solve_fault}
use Rattle.flow_c.proofs.Tested.{no-makespan-fault, of-four}
use Rattle.flow_c.proofs.solve.solve_numbers.Goals as goal

pub returns-clause-lawful : goal.returns-clause-lawful
returns-clause-lawful c = rw c.in_ok-instance.ensures.value at c.solve_from.ensures.lawful

pub returns-clause-gives : goal.returns-clause-gives
returns-clause-gives c = rw c.in_ok-instance.ensures.value at c.solve_from.ensures.gives

pub returns-clause-refused : goal.returns-clause-refused
returns-clause-refused c =
    let a = c.args in
    let shop = shop_of a.shop.now in
    let options = options_of a.plan.now in
    IfErr-weaker c.solve_from.result _ _
    (λ fault is. of-four (makespan_fault a.shop.now a.start.now) (choice_fault a.plan.now)
    (planning_fault shop options a.entries.sequence)
    (solve_fault (plan_of shop a.start.now options) a.entries.text) fault
    (no-makespan-fault a.shop.now a.start.now c.in_ok-instance.ensures.accepted
    (rw c.in_ok-instance.ensures.value at c.in_ok-start.ensures.accepted))
    c.in_ok-options.ensures.accepted is)
    (rw (c.in_ok-instance.ensures.value, c.in_ok-start.ensures.value, c.in_ok-options.ensures.value)
    at c.solve_from.ensures.refused)
