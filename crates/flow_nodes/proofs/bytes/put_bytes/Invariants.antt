use Rattle.std.proofs.Common.{◌≡◌, ℕ, ◌+◌, ◌-◌, ◌<◌, ◌≤◌, List, slice_index, slice_index_or}
use Rattle.flow_nodes.specs.Vectors.{HasLane}
use Rattle.flow_nodes.proofs.bytes.put_bytes.Given as goal

-- the vectors of the places so far
abbrev pub invariant-loop-machine : goal.invariant-loop-machine
invariant-loop-machine l = record {
  done : (place lane : ℕ) (none : List ℕ) → place < l.at + l.machine → lane < 16 → l.at ≤ place →
      HasLane 255 16 (slice_index_or l.bytes place none) lane (slice_index l.fn.four (place - l.at));
  before : (place : ℕ) (none : List ℕ) → place < l.at →
      slice_index_or l.bytes place none ≡ slice_index_or l.fn.bytes place none;
}
