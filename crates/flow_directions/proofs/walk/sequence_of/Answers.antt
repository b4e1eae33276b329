use Rattle.std.proofs.Common.{sym, subst}
use Rattle.flow_shop.specs.Sequences.{IsSequence}
use Rattle.flow_directions.proofs.walk.sequence_of.Goals as goal

pub of_known-requires : goal.of_known-requires
of_known-requires c = subst (λ n. IsSequence n c.args.jobs.now) (sym c.requires.whole) c.requires
