use Rattle.std.proofs.Common.{w16, refl}
use Rattle.flow_nodes.proofs.LaneSteps.{has-sum}
use Rattle.flow_nodes.proofs.vector.U16x16Vector.plus.Goals as goal

pub returns : goal.returns
returns c lane one two x y = has-sum w16 65535 16 c.args.self c.args.other lane one two x y refl
