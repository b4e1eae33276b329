use Rattle.std.proofs.Common.{ℕ, ◌+◌, ◌-◌, ◌<◌, ◌≤◌, length, List, slice_index, slice_index_or}
use Rattle.flow_nodes.specs.Vectors.{HasLane}
use Rattle.flow_nodes.proofs.bytes.write_slacks.Given as goal

-- the vectors of the places so far
abbrev pub invariant-machines : goal.invariant-machines
invariant-machines l = record {
  within : l.at ≤ length l.slacks;
  done : (place lane : ℕ) (none : List ℕ) → place < l.at → lane < 16 →
      HasLane 255 16 (slice_index_or l.slacks place none) lane
      (l.limit - 1 - (slice_index l.node.front place + slice_index l.node.work place + slice_index l.node.back place));
}

abbrev pub decreases-machines : goal.decreases-machines
decreases-machines l = length l.slacks - l.at
