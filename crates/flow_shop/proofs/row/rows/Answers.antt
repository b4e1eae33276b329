use Rattle.std.proofs.Common.{◌≡◌, ◌-◌, ◌∷◌, [], length, arith, ap}
use Rattle.std.proofs.lemmas.List.{length-append}
use Rattle.flow_shop.proofs.RowSteps.{each-more}
use Rattle.flow_shop.proofs.row.rows.Goals as goal

pub loop-job-preserved : goal.loop-job-preserved
loop-job-preserved c =
    let count : length c.loop-job.rows.items ≡ c.loop-job.job - 1 = omega (arith, c.loop-job.invariant.count) in
    record {
      count = omega (
        arith,
        ap length c.in_ok-push.ensures.items,
        length-append c.loop-job.rows.items (c.row_of.result ∷ []),
        c.loop-job.invariant.count,
      );
      each = each-more c.args.instance.now c.loop-job.rows.items c.push.new.self.items c.row_of.result c.loop-job.job
          c.loop-job.auto.job count c.in_ok-push.ensures.items c.row_of.ensures c.loop-job.invariant.each;
    }
