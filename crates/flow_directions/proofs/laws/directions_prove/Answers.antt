use Rattle.flow_directions.proofs.SearchProves.{directions_prove}
use Rattle.flow_directions.proofs.laws.directions_prove.Goals as goal

pub returns : goal.returns
returns c = directions_prove
