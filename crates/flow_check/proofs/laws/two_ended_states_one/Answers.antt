use Rattle.flow_check.proofs.TwoEndedLaws.{two_ended_states_one}
use Rattle.flow_check.proofs.laws.two_ended_states_one.Goals as goal

pub returns : goal.returns
returns c = two_ended_states_one
