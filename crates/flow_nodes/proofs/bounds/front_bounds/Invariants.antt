use Rattle.std.proofs.Common.{ℕ, ◌<◌, List, [], ◌∷◌, ◌++◌, map, slice_index}
use Rattle.flow_shop.specs.Shop.{Shop, numbers}
use Rattle.flow_shop.specs.Least.{greatest}
use Rattle.flow_shop.specs.Ends.{front}
use Rattle.flow_nodes.specs.Vectors.{HasLane}
use Rattle.flow_nodes.specs.Nodes.{IsNode}
use Rattle.flow_nodes.specs.Groups.{IsGroup}
use Rattle.flow_nodes.specs.internal.Children.{front_child_at}
use Rattle.flow_nodes.proofs.bounds.front_bounds.Given as goal

-- the lanes have the fronts of the children, and what is greatest so far
abbrev pub invariant-loop-place : goal.invariant-loop-place
invariant-loop-place g l = record {
  free : (shop : Shop) (first last jobs : List ℕ) (lane : ℕ) → IsNode shop first last l.node →
      IsGroup g.V.Vector.list g.V.Vector.CAP g.V.Vector.WIDTH shop jobs l.group → lane < g.V.Vector.WIDTH →
      HasLane g.V.Vector.CAP g.V.Vector.WIDTH (g.V.Vector.list l.free) lane
      (front shop (first ++ slice_index jobs lane ∷ []) l.place);
  bounds : (shop : Shop) (first last jobs : List ℕ) (lane : ℕ) → IsNode shop first last l.node →
      IsGroup g.V.Vector.list g.V.Vector.CAP g.V.Vector.WIDTH shop jobs l.group → lane < g.V.Vector.WIDTH →
      HasLane g.V.Vector.CAP g.V.Vector.WIDTH (g.V.Vector.list l.bounds) lane
      (greatest (map (front_child_at shop first last (slice_index jobs lane)) (numbers 1 l.place)));
}
