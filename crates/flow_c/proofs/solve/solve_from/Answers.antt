use Rattle.flow_c.proofs.solve.solve_from.Goals as goal

pub returns-clause-lawful : goal.returns-clause-lawful
returns-clause-lawful c = rw c.in_ok-plan.ensures.value at c.solve_plan.ensures.lawful

pub returns-clause-gives : goal.returns-clause-gives
returns-clause-gives c = rw c.in_ok-plan.ensures.value at c.solve_plan.ensures.gives
