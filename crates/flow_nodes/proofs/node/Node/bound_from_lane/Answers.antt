use Rattle.std.proofs.Common.{arith}
use Rattle.flow_nodes.proofs.node.Node.bound_from_lane.Goals as goal

pub returns-then-lane-cap : goal.returns-then-lane-cap
returns-then-lane-cap c first last is out = omega (arith, c.requires.lane first last is out, c.if-lane-cap.true)
