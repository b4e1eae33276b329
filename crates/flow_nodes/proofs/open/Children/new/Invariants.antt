use Rattle.std.proofs.Common.{◌≡◌, ℕ, ◌-◌, ◌<◌, ◌≤◌, length, slice_index_or}
use Rattle.std.specs.Global.{Vec}
use Rattle.flow_nodes.proofs.open.Children.new.Given as goal

-- the groups so far
abbrev pub invariant-groups : goal.invariant-groups
invariant-groups g l = record {
  few : length l.starts.items ≤ l.groups;
  done : (group : ℕ) (none : Vec g.row.V.Denot) → group < length l.starts.items →
      length (slice_index_or l.starts.items group none).items ≡ l.instance.machines;
}

abbrev pub decreases-groups : goal.decreases-groups
decreases-groups g l = l.groups - length l.starts.items
