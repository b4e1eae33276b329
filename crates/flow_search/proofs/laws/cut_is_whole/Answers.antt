use Rattle.flow_search.proofs.CutOrder.{cut_is_whole}
use Rattle.flow_search.proofs.laws.cut_is_whole.Goals as goal

pub returns : goal.returns
returns c = cut_is_whole
