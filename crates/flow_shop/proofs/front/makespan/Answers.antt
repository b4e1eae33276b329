use Rattle.std.proofs.Common.{◌≤◌, length, length-take, take, arith, ap}
use Rattle.flow_shop.proofs.Fronts.{front-within}
use Rattle.flow_shop.proofs.front.makespan.Goals as goal

pub front_push-requires-clause-within : goal.front_push-requires-clause-within
front_push-requires-clause-within c =
    let short : length (take c.loop-job.job-index c.jobs-job-items.result.now) ≤ c.args.instance.now.jobs =
    simp length-take (omega (arith, ap length c.jobs-job-items.ensures.value)) in
    front-within c.args.instance.now
    (take c.loop-job.job-index c.jobs-job-items.result.now) c.loop-job.front c.machines-machines.ensures.limits
    short c.loop-job.invariant
