use Rattle.flow_certify.specs.internal.Keeping.{IsLater}
use Rattle.flow_certify.proofs.bounds.certify.Given as goal

abbrev pub invariant-tasks : goal.invariant-tasks
invariant-tasks g l = IsLater l.instance l.initial.kept l.kept

abbrev pub decreases-tasks : goal.decreases-tasks
decreases-tasks g l = l.kept.run.tasks
