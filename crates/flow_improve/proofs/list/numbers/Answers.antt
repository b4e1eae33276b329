use Rattle.std.proofs.Common.{◌+◌, ◌-◌, arith, sym, subst}
use Rattle.flow_shop.specs.Sequences.{IsSequence}
use Rattle.flow_bound.proofs.ByTotal.{sequence-push}
use Rattle.flow_improve.proofs.list.numbers.Goals as goal

pub loop-job-preserved : goal.loop-job-preserved
loop-job-preserved c =
    subst (IsSequence (c.loop-job.job + 1 - 1)) (sym c.in_ok-push.ensures.items)
    (sequence-push c.loop-job.numbers.items c.loop-job.job (omega arith) c.loop-job.invariant)
