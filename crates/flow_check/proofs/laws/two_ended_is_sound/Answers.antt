use Rattle.flow_check.proofs.TwoEndedLaws.{two_ended_is_sound}
use Rattle.flow_check.proofs.laws.two_ended_is_sound.Goals as goal

pub returns : goal.returns
returns c = two_ended_is_sound
