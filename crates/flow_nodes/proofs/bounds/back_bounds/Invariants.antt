use Rattle.std.proofs.Common.{ℕ, ◌+◌, ◌<◌, ◌≤◌, List, ◌∷◌, length, map, slice_index}
use Rattle.flow_shop.specs.Shop.{Shop, numbers}
use Rattle.flow_shop.specs.Least.{greatest}
use Rattle.flow_shop.specs.Ends.{back}
use Rattle.flow_nodes.specs.Vectors.{HasLane}
use Rattle.flow_nodes.specs.Nodes.{IsNode}
use Rattle.flow_nodes.specs.Groups.{IsGroup}
use Rattle.flow_nodes.specs.internal.Children.{back_child_at}
use Rattle.flow_nodes.proofs.bounds.back_bounds.Given as goal

-- the lanes have the backs of the children, and what is greatest so far
abbrev pub invariant-loop-machine : goal.invariant-loop-machine
invariant-loop-machine g l = record {
  within : l.machine ≤ length l.group;
  free : (shop : Shop) (first last jobs : List ℕ) (lane : ℕ) → IsNode shop first last l.node →
      IsGroup g.V.Vector.list g.V.Vector.CAP g.V.Vector.WIDTH shop jobs l.group → lane < g.V.Vector.WIDTH →
      HasLane g.V.Vector.CAP g.V.Vector.WIDTH (g.V.Vector.list l.free) lane
      (back shop (slice_index jobs lane ∷ last) (l.machine + 1));
  bounds : (shop : Shop) (first last jobs : List ℕ) (lane : ℕ) → IsNode shop first last l.node →
      IsGroup g.V.Vector.list g.V.Vector.CAP g.V.Vector.WIDTH shop jobs l.group → lane < g.V.Vector.WIDTH →
      HasLane g.V.Vector.CAP g.V.Vector.WIDTH (g.V.Vector.list l.bounds) lane
      (greatest (map (back_child_at shop first last (slice_index jobs lane)) (numbers (l.machine + 1) shop.machines)));
}

abbrev pub decreases-loop-machine : goal.decreases-loop-machine
decreases-loop-machine g l = l.machine
