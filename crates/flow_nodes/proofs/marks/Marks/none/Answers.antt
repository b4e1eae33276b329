use Rattle.flow_nodes.specs.Groups.{most_groups}
use Rattle.flow_nodes.proofs.MarkSteps.{mark-none}
use Rattle.flow_nodes.proofs.marks.Marks.none.Goals as goal

pub returns-clause-each : goal.returns-clause-each
returns-clause-each c place = mark-none most_groups place
