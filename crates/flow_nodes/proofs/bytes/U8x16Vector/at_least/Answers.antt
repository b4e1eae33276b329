use Rattle.std.proofs.Common.{w8}
use Rattle.flow_nodes.proofs.LaneSteps.{has-greater}
use Rattle.flow_nodes.proofs.bytes.U8x16Vector.at_least.Goals as goal

pub returns : goal.returns
returns c lane one two x y = has-greater w8 255 16 c.args.self c.args.other lane one two x y
