use Rattle.std.proofs.Common.{take}
use Rattle.flow_shop.specs.Front.{IsFrontOf}
use Rattle.flow_shop.proofs.front.makespan.Given as goal

abbrev pub invariant-loop-job : goal.invariant-loop-job
invariant-loop-job l = IsFrontOf l.instance (take l.job-index l.job-items) l.front
