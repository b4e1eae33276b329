use Rattle.std.proofs.Common.{◌≤◌, arith}
use Rattle.flow_shop.specs.Shop.{time_between}
use Rattle.flow_nodes.proofs.NodeSteps.{least-step}
use Rattle.flow_nodes.proofs.node.least_between.Goals as goal

pub loop-job-preserved : goal.loop-job-preserved
loop-job-preserved c =
    let low : 2 ≤ c.loop-job.job = omega arith in
    let step = least-step (λ job. time_between c.args.instance.now job c.args.first c.args.last) c.loop-job.job low in
    omega (arith, step, c.loop-job.invariant, c.min-least.ensures, c.time_between.ensures)
