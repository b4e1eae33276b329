use Rattle.flow_search.proofs.CutOrder.{cut_is_ordered}
use Rattle.flow_search.proofs.laws.cut_is_ordered.Goals as goal

pub returns : goal.returns
returns c = cut_is_ordered
