use Rattle.std.proofs.Common.{◌≡◌, ◌-◌, [], sym, subst, ◌∙◌, arith}
use Rattle.flow_check.specs.internal.Links.{AreLinks}
use Rattle.flow_check.proofs.Links.{all-linked}
use Rattle.flow_check.proofs.reader.all_links.Goals as goal

pub returns : goal.returns
returns c =
    let end : c.loop-job.job - 1 ≡ c.args.jobs =
    omega (arith, c.loop-job.auto.job, c.loop-job.auto.job-end, c.loop-job-test.false) in
    subst (AreLinks c.args.jobs []) (sym c.in_ok-push-2.ensures.items)
    (all-linked c.args.jobs c.loop-job.links.items (c.loop-job.invariant.size ∙ end)
    (λ k low. c.loop-job.invariant.each k (omega (arith, low, end))))
