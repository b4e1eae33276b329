use Rattle.std.proofs.Common.{◌≡◌, ap, ◌∙◌, arith}
use Rattle.std.proofs.lemmas.Grind.{common_steps}
use Rattle.flow_shop.specs.Shop.{time_between}
use Rattle.flow_bound.specs.Totals.{total}
use Rattle.flow_shop.proofs.Lists.{filled-more}
use Rattle.flow_bound.proofs.sums.totals_of.Goals as goal

pub loop-job-init : goal.loop-job-init
loop-job-init c = record {
  machines_are = c.machines-machines.ensures.value;
  size = omega arith;
  are = λ k low high. absurd (omega arith);
}

pub loop-job-preserved : goal.loop-job-preserved
loop-job-preserved c =
    let shop = c.args.instance.now in
    let is = c.loop-job.invariant in
    record {
      machines_are = is.machines_are;
      size = grind (arith, common_steps);
      are = filled-more (λ k number. number ≡ total shop k) c.loop-job.totals c.loop-job.job
          c.time_between.result (omega arith) (omega arith)
          (c.time_between.ensures ∙ ap (time_between shop c.loop-job.job 1) is.machines_are) is.are;
    }

pub returns : goal.returns
returns c job low high = c.loop-job.invariant.are job low (omega (arith, high))
