use Rattle.flow_shop.proofs.TwoLeastSteps.{second-is-second}
use Rattle.flow_shop.proofs.laws.second_is_second.Goals as goal

pub returns : goal.returns
returns c = second-is-second
