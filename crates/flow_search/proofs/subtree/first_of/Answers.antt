use Rattle.std.proofs.Common.{sym, ◌∙◌, arith}
use Rattle.flow_shop.specs.JobSet.{contains}
use Rattle.flow_search.proofs.Nodes.{find-here, find-skip, find-past}
use Rattle.flow_search.proofs.subtree.first_of.Goals as goal

pub returns-then-contains : goal.returns-then-contains
returns-then-contains c =
    sym (find-here (contains c.args.set.now) c.loop-job.job c.args.last (omega arith) (sym c.contains.ensures.value
    ∙ c.if-contains.true))
    ∙ c.loop-job.invariant

pub loop-job-preserved : goal.loop-job-preserved
loop-job-preserved c =
    find-skip (contains c.args.set.now) c.loop-job.job c.args.last (omega arith) (sym c.contains.ensures.value
    ∙ c.if-contains.false)
    ∙ c.loop-job.invariant

pub returns : goal.returns
returns c = find-past (contains c.args.set.now) c.loop-job.job c.args.last (omega arith) ∙ c.loop-job.invariant
