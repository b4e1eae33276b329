use Rattle.flow_search.proofs.CutOrder.{cut_parts}
use Rattle.flow_search.proofs.laws.cut_parts.Goals as goal

pub returns : goal.returns
returns c = cut_parts
