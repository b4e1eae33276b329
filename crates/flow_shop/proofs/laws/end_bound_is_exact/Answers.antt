use Rattle.flow_shop.proofs.EndBounds.{end_bound_is_exact}
use Rattle.flow_shop.proofs.laws.end_bound_is_exact.Goals as goal

pub returns : goal.returns
returns c = end_bound_is_exact
