use Rattle.std.proofs.Common.{length, sym, subst}
use Rattle.flow_shop.specs.Sequences.{IsSequence}
use Rattle.flow_shop.proofs.sequence.Sequence.of_known.Goals as goal

pub invariant_of-result : goal.invariant_of-result
invariant_of-result c =
    subst (λ jobs. IsSequence (length jobs) jobs) (sym c.in_ok-jobs.ensures.items) c.requires
