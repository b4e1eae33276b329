use Rattle.std.proofs.Common.{◌≡◌, ℕ, true, false, sym, ◌∙◌, arith}
use Rattle.flow_shop.specs.Shop.{time}
use Rattle.flow_shop.specs.JobSet.{contains}
use Rattle.flow_bound.proofs.Rests.{sum-take, sum-skip, sum-whole}
use Rattle.flow_bound.proofs.sums.sum_of.Goals as goal
use Rattle.flow_bound.proofs.sums.sum_of.Goals.{then-contains, else-contains}

pub overflow_add-sum : goal.overflow_add-sum
overflow_add-sum c = omega (arith, c.loop-job.invariant.small)

pub loop-job-preserved : goal.loop-job-preserved
loop-job-preserved c =
    let f : ℕ → ℕ = λ job. time c.args.instance.now job c.args.machine in
    elim c.if-contains.branch [
      | then-contains w ↦
          let there : contains c.args.set.now c.loop-job.job ≡ true = sym c.contains.ensures.value
          ∙ w.if-contains.true in
          record {
            is = omega (
              arith,
              sum-take f
                  (contains c.args.set.now) c.loop-job.job c.loop-job.auto.job there,
              c.loop-job.invariant.is,
              w.sum-is,
              w.time-sum.ensures.value,
            );
            small = omega (arith, c.loop-job.invariant.small, w.sum-is, w.time-sum.ensures.limit);
          }
      | else-contains w ↦
          let out : contains c.args.set.now c.loop-job.job ≡ false = sym c.contains.ensures.value
          ∙ w.if-contains.false in
          record {
            is = omega (
              arith,
              sum-skip f
                  (contains c.args.set.now) c.loop-job.job c.loop-job.auto.job out,
              c.loop-job.invariant.is,
              w.sum-is,
            );
            small = omega (arith, c.loop-job.invariant.small, w.sum-is);
          }
    ]

pub returns : goal.returns
returns c =
    c.loop-job.invariant.is
    ∙ sum-whole (λ job. time c.args.instance.now job c.args.machine) c.args.set.now c.args.instance.now.jobs
    c.loop-job.job c.requires.jobs (omega arith)
