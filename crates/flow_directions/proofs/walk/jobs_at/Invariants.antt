use Rattle.std.proofs.Common.{◌≡◌, ◌++◌, length}
use Rattle.flow_nodes.specs.Marks.{chosen}
use Rattle.flow_directions.proofs.walk.jobs_at.Given as goal

-- the jobs so far, and those that are still marked
abbrev pub invariant-places : goal.invariant-places
invariant-places g l = l.jobs.items ++ chosen l.rest.words l.pack.names.items ≡ chosen l.marks.words l.pack.names.items

abbrev pub decreases-places : goal.decreases-places
decreases-places g l = length (chosen l.rest.words l.pack.names.items)
