use Rattle.flow_shop.proofs.TwoLeastSteps.{least-below-each, least-below-one}
use Rattle.flow_shop.proofs.laws.least_is_least.Goals as goal

pub returns-clause-least : goal.returns-clause-least
returns-clause-least c = least-below-each

pub returns-clause-one : goal.returns-clause-one
returns-clause-one c = least-below-one
