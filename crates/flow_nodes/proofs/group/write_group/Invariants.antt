use Rattle.std.proofs.Common.{◌≡◌, ℕ, ◌-◌, ◌<◌, ◌≤◌, length, slice_index, slice_index_or}
use Rattle.flow_shop.specs.Shop.{time}
use Rattle.flow_nodes.specs.Vectors.{HasLane}
use Rattle.flow_nodes.proofs.group.write_group.Given as goal

-- the lanes of the machines so far
abbrev pub invariant-loop-machine : goal.invariant-loop-machine
invariant-loop-machine g l = record {
  times_length : length l.times ≡ 64;
  length : length l.group ≡ l.instance.machines;
  done : (lane : ℕ) (none : g.row.V.Denot) → lane < g.V.Vector.WIDTH → (machine : ℕ) → 1 ≤ machine →
      machine < l.machine →
      HasLane g.V.Vector.CAP g.V.Vector.WIDTH (g.V.Vector.list (slice_index_or l.group (machine - 1) none)) lane
      (time l.instance (slice_index l.jobs lane) machine);
}
