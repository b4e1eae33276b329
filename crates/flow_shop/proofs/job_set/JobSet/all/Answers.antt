use Rattle.std.proofs.Common.{◌≡◌, ◌+◌, arith, ap, ◌∙◌}
use Rattle.flow_shop.specs.Shop.{numbers}
use Rattle.flow_shop.specs.JobSet.{contains}
use Rattle.flow_limits.specs.Limits.{most_jobs}
use Rattle.std.specs.List.{filter}
use Rattle.flow_shop.proofs.JobSetLemmas.{filter-first}
use Rattle.flow_shop.proofs.job_set.JobSet.all.Goals as goal

pub returns-clause-members : goal.returns-clause-members
returns-clause-members c =
    let there = c.loop-job.invariant in
    let last : c.loop-job.job ≡ c.args.instance.now.jobs + 1 = omega arith in
    ap (λ n. filter (contains c.loop-job.set) (numbers 1 n)) there.size
    ∙ filter-first (contains c.loop-job.set) c.args.instance.now.jobs most_jobs (omega arith)
    (λ k low high. there.inside k low (omega arith)) (λ k above. there.outside k (omega arith))
