use Rattle.std.proofs.Common.{◌≡◌, ℕ, ◌-◌, ◌<◌, ◌≤◌, List, length, slice_index_or}
use Rattle.std.specs.Global.{Vec}
use Rattle.flow_nodes.proofs.pack.Pack.with_bytes.Given as goal

-- the groups of bytes so far
abbrev pub invariant-groups : goal.invariant-groups
invariant-groups g l = record {
  few : length l.bytes.items ≤ l.wanted;
  done : (group : ℕ) (none : Vec (List ℕ)) → group < length l.bytes.items →
      length (slice_index_or l.bytes.items group none).items ≡ l.instance.machines;
}

abbrev pub decreases-groups : goal.decreases-groups
decreases-groups g l = l.wanted - length l.bytes.items
