use Rattle.flow_shop.proofs.Admissible.{released_bound_is_stronger}
use Rattle.flow_shop.proofs.laws.released_bound_is_stronger.Goals as goal

pub returns : goal.returns
returns c = released_bound_is_stronger
