use Rattle.std.proofs.Common.{◌≡◌, ℕ, ◌+◌, ◌-◌, ◌<◌, ◌≤◌, length, slice_index_or}
use Rattle.flow_check.specs.internal.Frames.{pack_groups}
use Rattle.flow_nodes.specs.Packs.{HasByteRoom, HasRoom}
use Rattle.flow_nodes.specs.declared.pack.Pack.{Pack}
use Rattle.flow_check.proofs.two_ended.walk.Path.new.Given as goal

-- the packs so far
abbrev pub invariant-packs : goal.invariant-packs
invariant-packs g l = record {
  few : length l.packs.items ≤ pack_groups l.jobs;
  rooms : (place : ℕ) (none : Pack g.row.V.Denot) → place < length l.packs.items →
      HasRoom l.instance (slice_index_or l.packs.items place none);
  byte_rooms : (place : ℕ) (none : Pack g.row.V.Denot) → place < length l.packs.items →
      HasByteRoom l.instance (slice_index_or l.packs.items place none);
  groups : (place : ℕ) (none : Pack g.row.V.Denot) → place < length l.packs.items →
      length (slice_index_or l.packs.items place none).groups.items ≡ place + 1;
}

abbrev pub decreases-packs : goal.decreases-packs
decreases-packs g l = pack_groups l.jobs - length l.packs.items
