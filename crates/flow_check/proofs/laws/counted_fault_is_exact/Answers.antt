use Rattle.flow_check.proofs.CountedLaws.{each_counted_is_judged, above_is_most}
use Rattle.flow_check.proofs.laws.counted_fault_is_exact.Goals as goal

pub returns-clause-judged : goal.returns-clause-judged
returns-clause-judged c = each_counted_is_judged

pub returns-clause-above : goal.returns-clause-above
returns-clause-above c = above_is_most
