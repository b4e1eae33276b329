use Rattle.std.proofs.Common.{ℕ, ◌-◌, ◌<◌, ◌≤◌, List, length, slice_index_or}
use Rattle.std.specs.Global.{Vec}
use Rattle.flow_nodes.specs.Groups.{AreNames, IsGroup}
use Rattle.flow_nodes.proofs.group.groups.Given as goal

-- the groups so far
abbrev pub invariant-groups : goal.invariant-groups
invariant-groups g l = record {
  few : length l.groups.items ≤ l.count;
  done : (group : ℕ) (none : Vec g.row.V.Denot) → group < length l.groups.items →
      (names : List ℕ) × AreNames l.instance group names
      × IsGroup g.V.Vector.list g.V.Vector.CAP g.V.Vector.WIDTH l.instance names
      (slice_index_or l.groups.items group none).items;
}

abbrev pub decreases-groups : goal.decreases-groups
decreases-groups g l = l.count - length l.groups.items
