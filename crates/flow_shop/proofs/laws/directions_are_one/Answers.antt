use Rattle.flow_shop.proofs.DirectionsOne.{directions_are_one}
use Rattle.flow_shop.proofs.laws.directions_are_one.Goals as goal

pub returns : goal.returns
returns c = directions_are_one
