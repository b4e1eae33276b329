use Rattle.flow_shop.proofs.DirectionsSound.{directions_are_sound, proved_is_lower_bound}
use Rattle.flow_shop.proofs.laws.directions_are_sound.Goals as goal

pub returns-clause-node : goal.returns-clause-node
returns-clause-node c = directions_are_sound

pub returns-clause-all : goal.returns-clause-all
returns-clause-all c = proved_is_lower_bound
