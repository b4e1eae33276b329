use Rattle.flow_bound.proofs.rest.Rest.bound.Goals as goal

pub returns-clause-admissible : goal.returns-clause-admissible
returns-clause-admissible c shop scheduled sequence rest some front is extends =
    c.bound.ensures.admissible shop scheduled sequence rest.loads_are some front is extends
