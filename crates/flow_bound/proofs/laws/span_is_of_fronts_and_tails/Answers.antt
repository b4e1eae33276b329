use Rattle.flow_bound.proofs.FrontsAndTails.{span-is-of-fronts-and-tails}
use Rattle.flow_bound.proofs.laws.span_is_of_fronts_and_tails.Goals as goal

pub returns : goal.returns
returns c = span-is-of-fronts-and-tails
