use Rattle.flow_check.proofs.NodeSteps.{node-within}
use Rattle.flow_check.proofs.node.makespan_at.Goals as goal

pub completion_of-requires-clause-within : goal.completion_of-requires-clause-within
completion_of-requires-clause-within c =
    node-within c.args.text.now.shop.now c.requires.at.0 c.args.node.now c.requires.at.1 c.args.text.now.are_rows.limits
    c.requires.at.2
