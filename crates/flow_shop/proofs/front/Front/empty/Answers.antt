use Rattle.flow_limits.specs.Limits.{most_machines}
use Rattle.flow_shop.proofs.Fronts.{zeros-small, front-empty}
use Rattle.flow_shop.proofs.front.Front.empty.Goals as goal

pub returns-clause-front : goal.returns-clause-front
returns-clause-front c shop machine from to = front-empty shop machine

pub returns-clause-within : goal.returns-clause-within
returns-clause-within c shop place low = zeros-small most_machines place
