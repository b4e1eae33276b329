use Rattle.flow_cert.proofs.Lawful.{plan_is_certified}
use Rattle.flow_cert.proofs.laws.plan_is_certified.Goals as goal

pub returns : goal.returns
returns c = plan_is_certified
