use Rattle.flow_cert.proofs.Lawful.{verdict_is_certified}
use Rattle.flow_cert.proofs.laws.verdict_is_certified.Goals as goal

pub returns : goal.returns
returns c = verdict_is_certified
