use Rattle.std.proofs.Common.{◌≡◌, ℕ, ◌<◌, length, slice_index}
use Rattle.flow_nodes.proofs.bytes.U8x16Vector.sum_marked.Given as goal

-- the numbers so far
abbrev pub invariant-loop-lane : goal.invariant-loop-lane
invariant-loop-lane l = record {
  length : length l.numbers ≡ 16;
  done : (lane : ℕ) → lane < l.lane → slice_index l.numbers lane ≡ slice_index l.bytes lane;
}
