use Rattle.std.proofs.Common.{◌≡◌, ℕ, ◌+◌, ◌-◌, ◌<◌, ◌≤◌, List, length, slice_index, slice_index_or}
use Rattle.std.specs.Prelude.{◌⊎◌}
use Rattle.flow_shop.specs.Shop.{Shop}
use Rattle.flow_nodes.specs.Vectors.{HasLane}
use Rattle.flow_nodes.specs.Nodes.{IsNode}
use Rattle.flow_nodes.specs.Groups.{IsGroup}
use Rattle.flow_nodes.specs.Open.{start_at}
use Rattle.flow_nodes.specs.internal.Pairs.{IsPaired}
use Rattle.flow_nodes.specs.internal.Passes.{HasPassed}
use Rattle.flow_nodes.specs.declared.node.Node.{Node}
use Rattle.flow_shop.specs.declared.end.End.TheVariants.{Back}
use Rattle.flow_nodes.proofs.passes.pass_back.Given as goal

-- the lanes have passed the machines so far; the starts there are written, and no others
abbrev pub invariant-loop-machine : goal.invariant-loop-machine
invariant-loop-machine g l = record {
  low : l.from ≤ l.machine;
  high : l.machine ≤ l.to;
  passed : (shop : Shop) (first last jobs : List ℕ) (node : Node) (lane : ℕ) → IsNode shop first last node →
      IsPaired g.V.Vector.pair_of g.V.Vector.CAP (length l.group) Back node l.pairs →
      IsGroup g.V.Vector.list g.V.Vector.CAP g.V.Vector.WIDTH shop jobs l.group → lane < g.V.Vector.WIDTH →
      HasPassed g.V.Vector.list g.V.Vector.CAP g.V.Vector.WIDTH shop Back first last (slice_index jobs lane) lane l.to
      l.fn.pass →
      HasPassed g.V.Vector.list g.V.Vector.CAP g.V.Vector.WIDTH shop Back first last (slice_index jobs lane) lane l.machine
      (record { free = l.free; bounds = l.bounds });
  starts : (shop : Shop) (first last jobs : List ℕ) (node : Node) (lane : ℕ) → IsNode shop first last node →
      IsPaired g.V.Vector.pair_of g.V.Vector.CAP (length l.group) Back node l.pairs →
      IsGroup g.V.Vector.list g.V.Vector.CAP g.V.Vector.WIDTH shop jobs l.group → lane < g.V.Vector.WIDTH →
      HasPassed g.V.Vector.list g.V.Vector.CAP g.V.Vector.WIDTH shop Back first last (slice_index jobs lane) lane l.to
      l.fn.pass →
      (place : ℕ) (none : g.row.V.Denot) → l.machine ≤ place → place < l.to →
      HasLane g.V.Vector.CAP g.V.Vector.WIDTH (g.V.Vector.list (slice_index_or l.starts place none)) lane
      (start_at shop Back first last (slice_index jobs lane) (place + 1));
  others : (place : ℕ) (none : g.row.V.Denot) → (place < l.machine) ⊎ (l.to ≤ place) →
      slice_index_or l.starts place none ≡ slice_index_or l.fn.starts place none;
}

abbrev pub decreases-loop-machine : goal.decreases-loop-machine
decreases-loop-machine g l = l.machine - l.from
