use Rattle.std.proofs.Common.{w32}
use Rattle.flow_nodes.proofs.LaneSteps.{has-greater}
use Rattle.flow_nodes.proofs.vector.U32x16Vector.at_least.Goals as goal

pub returns : goal.returns
returns c lane one two x y = has-greater w32 4294967295 16 c.args.self c.args.other lane one two x y
