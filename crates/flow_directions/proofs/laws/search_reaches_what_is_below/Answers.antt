use Rattle.flow_directions.proofs.SearchReaches.{reached_is_below, reaches_none_below}
use Rattle.flow_directions.proofs.laws.search_reaches_what_is_below.Goals as goal

pub returns-clause-reached : goal.returns-clause-reached
returns-clause-reached c = reached_is_below

pub returns-clause-none : goal.returns-clause-none
returns-clause-none c = reaches_none_below
