use Rattle.flow_shop.proofs.Admissible.{bound_is_admissible}
use Rattle.flow_shop.proofs.laws.bound_is_admissible.Goals as goal

pub returns : goal.returns
returns c = bound_is_admissible
