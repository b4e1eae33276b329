use Rattle.flow_search.proofs.Shorter.{stronger_bounds_shorten_trees, second_version_shortens_trees}
use Rattle.flow_search.proofs.Shorter.{second_version_keeps_budget}
use Rattle.flow_search.proofs.laws.stronger_bounds_shorten_trees.Goals as goal

pub returns-clause-trees : goal.returns-clause-trees
returns-clause-trees c = stronger_bounds_shorten_trees

pub returns-clause-versions : goal.returns-clause-versions
returns-clause-versions c = second_version_shortens_trees

pub returns-clause-budget : goal.returns-clause-budget
returns-clause-budget c = second_version_keeps_budget
