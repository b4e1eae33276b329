use Rattle.flow_search.proofs.LeastVerdict.{verdict_is_least}
use Rattle.flow_search.proofs.laws.verdict_is_least.Goals as goal

pub returns : goal.returns
returns c = verdict_is_least
