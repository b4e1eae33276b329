use Rattle.std.proofs.Common.{ℕ, ◌+◌, ◌-◌, ◌<◌, ◌≤◌, length, min, List, slice_index, slice_index_or}
use Rattle.flow_nodes.specs.Vectors.{HasLane}
use Rattle.flow_nodes.proofs.bytes.write_back_gaps.Given as goal

-- the vectors of the places so far
abbrev pub invariant-machines : goal.invariant-machines
invariant-machines l = record {
  within : l.at ≤ length l.gaps;
  done : (place lane : ℕ) (none : List ℕ) → place < l.at → lane < 16 →
      HasLane 255 16 (slice_index_or l.gaps place none) lane
      (slice_index l.backs place - slice_index l.backs (min (place + 1) 25));
}

abbrev pub decreases-machines : goal.decreases-machines
decreases-machines l = length l.gaps - l.at
