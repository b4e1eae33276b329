use Rattle.std.proofs.Common.{◌≡◌, ℕ, ◌+◌, ◌<◌, ◌≤◌, List, length, slice_index, slice_index_or}
use Rattle.std.specs.Prelude.{◌⊎◌}
use Rattle.flow_shop.specs.Shop.{Shop}
use Rattle.flow_nodes.specs.Vectors.{HasLane}
use Rattle.flow_nodes.specs.Nodes.{IsNode}
use Rattle.flow_nodes.specs.Groups.{IsGroup}
use Rattle.flow_nodes.specs.Open.{start_at}
use Rattle.flow_nodes.specs.internal.Pairs.{IsPaired}
use Rattle.flow_nodes.specs.internal.Passes.{HasPassed}
use Rattle.flow_nodes.specs.declared.node.Node.{Node}
use Rattle.flow_shop.specs.declared.end.End.TheVariants.{Front}
use Rattle.flow_nodes.proofs.passes.pass_front.Given as goal

-- the lanes have passed the places so far; the starts there are written, and no others
abbrev pub invariant-loop-place : goal.invariant-loop-place
invariant-loop-place g l = record {
  passed : (shop : Shop) (first last jobs : List ℕ) (node : Node) (lane : ℕ) → IsNode shop first last node →
      IsPaired g.V.Vector.pair_of g.V.Vector.CAP (length l.group) Front node l.pairs →
      IsGroup g.V.Vector.list g.V.Vector.CAP g.V.Vector.WIDTH shop jobs l.group → lane < g.V.Vector.WIDTH →
      HasPassed g.V.Vector.list g.V.Vector.CAP g.V.Vector.WIDTH shop Front first last (slice_index jobs lane) lane l.from
      l.fn.pass →
      HasPassed g.V.Vector.list g.V.Vector.CAP g.V.Vector.WIDTH shop Front first last (slice_index jobs lane) lane l.place
      (record { free = l.free; bounds = l.bounds });
  starts : (shop : Shop) (first last jobs : List ℕ) (node : Node) (lane : ℕ) → IsNode shop first last node →
      IsPaired g.V.Vector.pair_of g.V.Vector.CAP (length l.group) Front node l.pairs →
      IsGroup g.V.Vector.list g.V.Vector.CAP g.V.Vector.WIDTH shop jobs l.group → lane < g.V.Vector.WIDTH →
      HasPassed g.V.Vector.list g.V.Vector.CAP g.V.Vector.WIDTH shop Front first last (slice_index jobs lane) lane l.from
      l.fn.pass →
      (place : ℕ) (none : g.row.V.Denot) → place < l.place → l.from ≤ place →
      HasLane g.V.Vector.CAP g.V.Vector.WIDTH (g.V.Vector.list (slice_index_or l.starts place none)) lane
      (start_at shop Front first last (slice_index jobs lane) (place + 1));
  others : (place : ℕ) (none : g.row.V.Denot) → (place < l.from) ⊎ (l.place ≤ place) →
      slice_index_or l.starts place none ≡ slice_index_or l.fn.starts place none;
}
