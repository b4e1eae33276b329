use Rattle.flow_shop.proofs.Recurrence.{completion-push}
use Rattle.flow_shop.proofs.laws.completion_by_recurrence.Goals as goal

pub returns : goal.returns
returns c = completion-push
