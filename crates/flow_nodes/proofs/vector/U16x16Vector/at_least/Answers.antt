use Rattle.std.proofs.Common.{w16}
use Rattle.flow_nodes.proofs.LaneSteps.{has-greater}
use Rattle.flow_nodes.proofs.vector.U16x16Vector.at_least.Goals as goal

pub returns : goal.returns
returns c lane one two x y = has-greater w16 65535 16 c.args.self c.args.other lane one two x y
