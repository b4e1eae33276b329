use Rattle.std.proofs.Common.{length-take, take, arith}
use Rattle.flow_core.proofs.Fronts.{front-within}
use Rattle.test_libraries.proofs.bounds.node.Goals as goal

pub front_push-requires-clause-within : goal.front_push-requires-clause-within
front_push-requires-clause-within c =
    front-within c.args.instance.now
    (take c.loop-job.job-index c.args.jobs.now) c.loop-job.front c.jobs-most.ensures.limits
    (simp length-take (omega arith)) c.loop-job.invariant.front

pub returns-clause-within : goal.returns-clause-within
returns-clause-within c =
    front-within c.args.instance.now
    (take c.loop-job.job-index c.args.jobs.now) c.loop-job.front c.jobs-most.ensures.limits
    (simp length-take (omega arith)) c.loop-job.invariant.front
