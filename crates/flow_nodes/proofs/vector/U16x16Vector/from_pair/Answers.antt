use Rattle.flow_nodes.proofs.PairLanes.{from-pair}
use Rattle.flow_nodes.proofs.vector.U16x16Vector.from_pair.Goals as goal

pub returns : goal.returns
returns c number lane fits is within = from-pair number c.args.pair lane fits is within
