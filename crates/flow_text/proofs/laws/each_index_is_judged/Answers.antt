use Rattle.flow_text.proofs.PickLemmas.{each_index_is_judged}
use Rattle.flow_text.proofs.laws.each_index_is_judged.Goals as goal

pub returns : goal.returns
returns c = each_index_is_judged
