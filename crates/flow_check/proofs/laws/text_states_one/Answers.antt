use Rattle.flow_check.proofs.OneSequence.{states_one}
use Rattle.flow_check.proofs.laws.text_states_one.Goals as goal

pub returns : goal.returns
returns c = states_one
