-- The node at which a search begins.
use Rattle.std.specs.Prelude.{ℕ, ◌≡◌, List, ◌++◌, length}
use Rattle.flow_shop.specs.Shop.{Shop}
use Rattle.flow_shop.specs.JobSet.{Holds}
use Rattle.flow_shop.specs.Sequences.{jobs_left, AreJobs}
use Rattle.flow_nodes.specs.Nodes.{IsNode}
use Rattle.flow_directions.specs.internal.Lists.{HasLists}
use Rattle.flow_directions.specs.declared.start.StartNode.{StartNode}

-- what is kept of the node of two lists at which a search begins
pub record IsStart (shop : Shop) (first last : List ℕ) (start : StartNode) : Type 0 where
  pub are_jobs : AreJobs shop.jobs (first ++ last)
  pub is_node : IsNode shop first last start.node
  pub has_lists : HasLists shop.jobs first last start.lists
  pub holds : Holds shop (first ++ last) start.taken
  pub left : start.left ≡ length (jobs_left shop.jobs (first ++ last))
