use Rattle.std.proofs.Common.{ℕ, ◌+◌, ◌-◌, ◌<◌, slice_index, slice_index_or}
use Rattle.flow_shop.specs.Shop.{time}
use Rattle.flow_nodes.specs.Vectors.{HasLane}
use Rattle.flow_nodes.proofs.group.turn_group.Given as goal

-- the vectors so far
abbrev pub invariant-machines : goal.invariant-machines
invariant-machines g l = record {
  done : (place lane : ℕ) (none : g.row.V.Denot) → place < l.at → place < l.instance.machines →
      lane < g.V.Vector.WIDTH →
      HasLane g.V.Vector.CAP g.V.Vector.WIDTH (g.V.Vector.list (slice_index_or l.group place none)) lane
      (time l.instance (slice_index l.jobs lane) (place + 1));
}

abbrev pub decreases-machines : goal.decreases-machines
decreases-machines g l = l.machines - l.at
