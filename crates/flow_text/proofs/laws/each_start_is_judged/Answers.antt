use Rattle.flow_text.proofs.StartFaultLemmas.{each_start_is_judged}
use Rattle.flow_text.proofs.laws.each_start_is_judged.Goals as goal

pub returns : goal.returns
returns c = each_start_is_judged
