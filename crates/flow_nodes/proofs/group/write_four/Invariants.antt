use Rattle.std.proofs.Common.{◌≡◌, ℕ, ◌+◌, ◌-◌, ◌*◌, ◌<◌, ◌≤◌, slice_index, slice_index_or}
use Rattle.flow_nodes.specs.Vectors.{HasLane}
use Rattle.flow_nodes.proofs.group.write_four.Given as goal

-- the vectors so far
abbrev pub invariant-loop-place : goal.invariant-loop-place
invariant-loop-place g l = record {
  before : (place : ℕ) (none : g.row.V.Denot) → place < l.at →
      slice_index_or l.group place none ≡ slice_index_or l.fn.group place none;
  done : (place lane : ℕ) (none : g.row.V.Denot) → l.at ≤ place → place < l.place → lane < g.V.Vector.WIDTH →
      HasLane g.V.Vector.CAP g.V.Vector.WIDTH (g.V.Vector.list (slice_index_or l.group place none)) lane
      (slice_index l.block ((place - l.at) * 16 + lane));
}
