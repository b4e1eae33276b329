use Rattle.flow_shop.proofs.Recurrence.{completion-attained, weight-le-completion}
use Rattle.flow_shop.proofs.laws.completion_is_greatest.Goals as goal

pub returns-clause-attained : goal.returns-clause-attained
returns-clause-attained c = completion-attained

pub returns-clause-greatest : goal.returns-clause-greatest
returns-clause-greatest c = weight-le-completion
