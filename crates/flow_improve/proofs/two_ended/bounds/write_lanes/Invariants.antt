use Rattle.std.proofs.Common.{◌≡◌, ◌≢◌, ℕ, ◌+◌, ◌*◌, ◌/◌, ◌<◌, length, slice_index}
use Rattle.flow_limits.specs.Limits.{most_jobs}
use Rattle.flow_nodes.specs.Vectors.{capped, HasLane}
use Rattle.flow_improve.proofs.two_ended.bounds.write_lanes.Given as goal

-- the lanes so far are written
abbrev pub invariant-loop-lane : goal.invariant-loop-lane
invariant-loop-lane g l = record {
  count : length l.numbers ≡ most_jobs;
  here : (lane value : ℕ) → lane < l.lane →
      HasLane g.V.Vector.CAP g.V.Vector.WIDTH (g.V.Vector.list l.lanes) lane value →
      slice_index l.numbers (l.group * 16 + lane) ≡ capped g.V.Vector.CAP value;
  others : (place : ℕ) → place / 16 ≢ l.group → slice_index l.numbers place ≡ slice_index l.fn.numbers place;
}
