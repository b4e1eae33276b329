use Rattle.std.proofs.Common.{slice_index}
use Rattle.flow_nodes.specs.Groups.{child_bound}
use Rattle.flow_nodes.proofs.node.Node.children_below.Goals as goal

pub returns-clause-each : goal.returns-clause-each
returns-clause-each g c shop first last jobs lane is are within fresh =
    c.below.ensures.each lane (child_bound shop c.args.end first last (slice_index jobs lane))
    (c.child_bounds.ensures shop first last jobs lane is are within fresh)
