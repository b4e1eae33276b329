use Rattle.std.proofs.Common.{◌≡◌, ℕ, ◌<◌, length, slice_index}
use Rattle.flow_nodes.specs.Vectors.{capped}
use Rattle.flow_nodes.proofs.vector.U16x16Vector.load.Given as goal

abbrev pub invariant-loop-lane : goal.invariant-loop-lane
invariant-loop-lane l = record {
  length : length l.lanes ≡ 16;
  done : (lane : ℕ) → lane < l.lane → slice_index l.lanes lane ≡ capped 65535 (slice_index l.numbers lane);
}
