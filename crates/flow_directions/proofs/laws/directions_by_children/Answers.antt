use Rattle.flow_directions.proofs.SearchByChildren.{directions_by_children}
use Rattle.flow_directions.proofs.laws.directions_by_children.Goals as goal

pub returns : goal.returns
returns c = directions_by_children
