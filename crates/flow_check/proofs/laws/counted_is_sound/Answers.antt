use Rattle.flow_check.proofs.CountedLaws.{counted_is_sound}
use Rattle.flow_check.proofs.laws.counted_is_sound.Goals as goal

pub returns : goal.returns
returns c = counted_is_sound
