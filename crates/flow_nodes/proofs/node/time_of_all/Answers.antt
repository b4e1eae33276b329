use Rattle.std.proofs.Common.{◌≡◌, ℕ, ◌+◌, ◌-◌, Bool, not, [], arith}
use Rattle.flow_shop.specs.Shop.{time}
use Rattle.flow_shop.specs.Sequences.{has}
use Rattle.flow_shop.proofs.JobsLeft.{kept, kept-step}
use Rattle.flow_nodes.proofs.node.time_of_all.Goals as goal

pub loop-job-preserved : goal.loop-job-preserved
loop-job-preserved c =
    let f : ℕ → ℕ = λ job. time c.args.instance.now job c.args.machine in
    let p : ℕ → Bool = λ job. not (has [] job) in
    let step : kept f p (c.loop-job.job + 1 - 1) ≡ kept f p (c.loop-job.job - 1) + f c.loop-job.job =
    kept-step f p c.loop-job.job c.loop-job.auto.job in
    let before : c.loop-job.total ≡ kept f p (c.loop-job.job - 1) = c.loop-job.invariant.value in
    let value : c.time-total.result ≡ f c.loop-job.job = c.time-total.ensures.value in
    record {
      value = omega (arith, step, before, value);
      small = omega (
        arith,
        c.loop-job.invariant.small,
        c.time-total.ensures.limit,
        c.loop-job.auto.job,
      );
    }
