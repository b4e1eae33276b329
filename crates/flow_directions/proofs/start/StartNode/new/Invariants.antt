use Rattle.std.proofs.Common.{◌≤◌, [], ◌++◌, length, take, drop}
use Rattle.flow_shop.specs.Sequences.{AreJobs}
use Rattle.flow_nodes.specs.Nodes.{IsNode}
use Rattle.flow_directions.specs.internal.Lists.{HasLists}
use Rattle.flow_shop.specs.JobSet.{Holds}
use Rattle.flow_directions.proofs.start.StartNode.new.Given as goal

-- the node of the first jobs so far
abbrev pub invariant-loop-job : goal.invariant-loop-job
invariant-loop-job l = record {
  are_jobs : AreJobs l.instance.jobs (l.first ++ l.last);
  holds : Holds l.instance (l.first ++ l.last) l.taken;
  is_node : IsNode l.instance (take l.job-index l.first) [] l.node;
  has_lists : HasLists l.instance.jobs (take l.job-index l.first) [] l.lists;
}

-- the node of all first jobs and the last jobs so far, from the last one on
abbrev pub invariant-loop-place : goal.invariant-loop-place
invariant-loop-place l = record {
  are_jobs : AreJobs l.instance.jobs (l.first ++ l.last);
  holds : Holds l.instance (l.first ++ l.last) l.taken;
  within : l.place ≤ length l.last;
  is_node : IsNode l.instance l.first (drop l.place l.last) l.node;
  has_lists : HasLists l.instance.jobs l.first (drop l.place l.last) l.lists;
}
