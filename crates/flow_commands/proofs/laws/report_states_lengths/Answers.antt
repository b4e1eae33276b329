use Rattle.flow_commands.proofs.Lengths.{states_directions, states_nodes, states_trees}
use Rattle.flow_commands.proofs.laws.report_states_lengths.Goals as goal

pub returns-clause-directions : goal.returns-clause-directions
returns-clause-directions c = states_directions

pub returns-clause-nodes : goal.returns-clause-nodes
returns-clause-nodes c = states_nodes

pub returns-clause-trees : goal.returns-clause-trees
returns-clause-trees c = states_trees
