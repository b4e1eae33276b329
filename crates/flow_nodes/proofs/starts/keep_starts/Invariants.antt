use Rattle.std.proofs.Common.{◌≡◌, ℕ, ◌-◌, ◌<◌, List, length, map, slice_index_or}
use Rattle.flow_shop.specs.Shop.{Shop, numbers}
use Rattle.flow_shop.specs.Least.{greatest}
use Rattle.flow_shop.specs.declared.end.End.{End}
use Rattle.flow_nodes.specs.Vectors.{HasLane}
use Rattle.flow_nodes.specs.Nodes.{IsMachine, IsNode}
use Rattle.flow_nodes.specs.Open.{start_at}
use Rattle.flow_nodes.specs.internal.Pairs.{AreRests}
use Rattle.flow_nodes.specs.declared.node.Node.{Node}
use Rattle.flow_nodes.proofs.StartSteps.{child_at}
use Rattle.flow_nodes.proofs.starts.keep_starts.Given as goal

-- the starts so far are copied, and the lanes have what is greatest so far
abbrev pub invariant-loop-place : goal.invariant-loop-place
invariant-loop-place g l = record {
  copied : (place : ℕ) (none : g.row.V.Denot) → place < l.place →
      slice_index_or l.kept place none ≡ slice_index_or l.starts place none;
  bounds : (shop : Shop) (end : End) (first last : List ℕ) (job : ℕ) (node : Node) (lane : ℕ) →
      IsNode shop first last node → AreRests g.V.Vector.pair_of g.V.Vector.CAP shop.machines end node l.rest →
      length l.starts ≡ shop.machines → lane < g.V.Vector.WIDTH →
      ((machine : ℕ) (none : g.row.V.Denot) → IsMachine shop machine →
      HasLane g.V.Vector.CAP g.V.Vector.WIDTH (g.V.Vector.list (slice_index_or l.starts (machine - 1) none)) lane
      (start_at shop end first last job machine)) →
      HasLane g.V.Vector.CAP g.V.Vector.WIDTH (g.V.Vector.list l.bounds) lane
      (greatest (map (child_at shop end first last job) (numbers 1 l.place)));
}
