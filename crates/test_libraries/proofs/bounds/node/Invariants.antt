use Rattle.std.proofs.Common.{◌≡◌, ℕ, ◌<◌, false, take}
use Rattle.flow_core.specs.Front.{IsFrontOf}
use Rattle.flow_core.specs.JobSet.{contains}
use Rattle.test_libraries.proofs.bounds.node.Given as goal

abbrev pub invariant-loop-job : goal.invariant-loop-job
invariant-loop-job l = record {
  front : IsFrontOf l.instance (take l.job-index l.jobs) l.front;
  left : (job : ℕ) → l.instance.jobs < job → contains l.left job ≡ false;
}
