use Rattle.flow_check.proofs.Sound.{certificate_is_sound, value_is_one}
use Rattle.flow_check.proofs.laws.certificate_is_sound.Goals as goal

pub returns-clause-least : goal.returns-clause-least
returns-clause-least c = certificate_is_sound

pub returns-clause-one : goal.returns-clause-one
returns-clause-one c = value_is_one
