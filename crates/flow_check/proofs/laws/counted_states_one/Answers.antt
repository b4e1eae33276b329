use Rattle.flow_check.proofs.CountedLaws.{counted_states_one}
use Rattle.flow_check.proofs.laws.counted_states_one.Goals as goal

pub returns : goal.returns
returns c = counted_states_one
