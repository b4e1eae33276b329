use Rattle.flow_check.proofs.FaultsExact.{each_text_is_judged, fault_is_exact}
use Rattle.flow_check.proofs.laws.fault_is_exact.Goals as goal

pub returns-clause-judged : goal.returns-clause-judged
returns-clause-judged c = each_text_is_judged

pub returns-clause-exact : goal.returns-clause-exact
returns-clause-exact c = fault_is_exact
