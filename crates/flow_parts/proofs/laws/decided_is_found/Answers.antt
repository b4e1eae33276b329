use Rattle.flow_parts.proofs.Decisions.{decided-agrees}
use Rattle.flow_parts.proofs.laws.decided_is_found.Goals as goal

pub returns : goal.returns
returns c = decided-agrees
