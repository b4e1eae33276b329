use Rattle.std.proofs.Common.{◌≡◌, ◌+◌, ◌-◌, map, max, slice_index_or, arith}
use Rattle.flow_shop.specs.Least.{greatest}
use Rattle.flow_shop.specs.Shop.{numbers}
use Rattle.flow_bound.specs.Totals.{total}
use Rattle.flow_shop.proofs.Ranges.{greatest-step}
use Rattle.flow_bound.proofs.taillard.greatest_total.Goals as goal

pub loop-job-preserved : goal.loop-job-preserved
loop-job-preserved c =
    let shop = c.args.instance.now in
    let step = greatest-step (total shop) c.loop-job.job (omega arith) in
    let before : c.loop-job.most ≡ greatest (map (total shop) (numbers 1 (c.loop-job.job - 1))) =
    c.loop-job.invariant in
    let value : slice_index_or c.args.totals.now (c.loop-job.job - 1) 0 ≡ total shop c.loop-job.job =
    c.requires c.loop-job.job (omega arith) (omega arith) in
    let most : c.max-most.result ≡ max c.loop-job.most (slice_index_or c.args.totals.now (c.loop-job.job - 1) 0) =
    c.max-most.ensures in
    let more : c.max-most.result ≡ greatest (map (total shop) (numbers 1 (c.loop-job.job + 1 - 1))) =
    omega (arith, step, before, value, most) in
    more
