use Rattle.flow_check.proofs.TwoEndedLaws.{each_two_ended_is_judged}
use Rattle.flow_check.proofs.laws.two_ended_fault_is_exact.Goals as goal

pub returns : goal.returns
returns c = each_two_ended_is_judged
