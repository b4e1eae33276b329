use Rattle.flow_shop.proofs.TwoLeastSteps.{least-without-one}
use Rattle.flow_shop.proofs.laws.least_without_one.Goals as goal

pub returns : goal.returns
returns c = least-without-one
