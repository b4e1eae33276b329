use Rattle.flow_search.proofs.CutOrder.{cut_has_depth}
use Rattle.flow_search.proofs.laws.cut_lists_have_depth.Goals as goal

pub returns : goal.returns
returns c = cut_has_depth
