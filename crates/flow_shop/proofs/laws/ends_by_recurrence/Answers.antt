use Rattle.flow_shop.proofs.EndSteps.{front_by_recurrence, back_by_recurrence}
use Rattle.flow_shop.proofs.laws.ends_by_recurrence.Goals as goal

pub returns-clause-front : goal.returns-clause-front
returns-clause-front c = front_by_recurrence

pub returns-clause-back : goal.returns-clause-back
returns-clause-back c = back_by_recurrence
