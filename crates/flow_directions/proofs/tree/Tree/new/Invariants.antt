use Rattle.std.proofs.Common.{◌≡◌, ℕ, ◌+◌, ◌-◌, ◌<◌, ◌≤◌, length, slice_index_or}
use Rattle.flow_nodes.specs.Packs.{HasRoom}
use Rattle.flow_nodes.specs.declared.pack.Pack.{Pack}
use Rattle.flow_directions.proofs.tree.Tree.new.Given as goal

-- the packs so far
abbrev pub invariant-packs : goal.invariant-packs
invariant-packs g l = record {
  few : length l.packs.items ≤ l.groups;
  rooms : (place : ℕ) (none : Pack g.row.V.Denot) → place < length l.packs.items →
      HasRoom l.instance (slice_index_or l.packs.items place none);
  groups : (place : ℕ) (none : Pack g.row.V.Denot) → place < length l.packs.items →
      length (slice_index_or l.packs.items place none).groups.items ≡ place + 1;
}

abbrev pub decreases-packs : goal.decreases-packs
decreases-packs g l = l.groups - length l.packs.items
