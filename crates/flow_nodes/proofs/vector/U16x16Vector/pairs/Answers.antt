use Rattle.flow_nodes.proofs.PairLanes.{twice-size, twice-each}
use Rattle.flow_nodes.proofs.vector.U16x16Vector.pairs.Goals as goal

pub returns-clause-size : goal.returns-clause-size
returns-clause-size c = twice-size c.args.four c.requires

pub returns-clause-each : goal.returns-clause-each
returns-clause-each c place low small = twice-each c.args.four c.requires place low small
