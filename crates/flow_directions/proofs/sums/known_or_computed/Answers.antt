use Rattle.flow_directions.proofs.sums.known_or_computed.Goals as goal

pub returns-in-Some : goal.returns-in-Some
returns-in-Some g c shop first last jobs lane is group low fresh known = known c.in-Some.bounds c.in-Some.is

pub returns-in-None : goal.returns-in-None
returns-in-None g c shop first last jobs lane is group low fresh known =
    c.small_child_bounds.ensures shop first last jobs lane is group low fresh
