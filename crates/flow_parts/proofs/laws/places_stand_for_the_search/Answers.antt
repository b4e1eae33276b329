use Rattle.flow_parts.proofs.Meetings.{gives-keep, gives-none-keeps}
use Rattle.flow_parts.proofs.Answering.{answers-keep}
use Rattle.flow_parts.proofs.laws.places_stand_for_the_search.Goals as goal

pub returns-clause-gives : goal.returns-clause-gives
returns-clause-gives c = gives-keep

pub returns-clause-none : goal.returns-clause-none
returns-clause-none c = gives-none-keeps

pub returns-clause-answers : goal.returns-clause-answers
returns-clause-answers c = answers-keep
