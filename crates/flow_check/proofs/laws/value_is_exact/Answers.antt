use Rattle.flow_check.proofs.Exact.{value_is_exact}
use Rattle.flow_check.proofs.laws.value_is_exact.Goals as goal

pub returns : goal.returns
returns c = value_is_exact
