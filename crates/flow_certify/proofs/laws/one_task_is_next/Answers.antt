use Rattle.flow_certify.proofs.OneNext.{one-next}
use Rattle.flow_certify.proofs.laws.one_task_is_next.Goals as goal

pub returns : goal.returns
returns c = one-next
