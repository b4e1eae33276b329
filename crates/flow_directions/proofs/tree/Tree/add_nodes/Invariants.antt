use Rattle.std.proofs.Common.{◌≡◌, ℕ, ◌-◌, ◌≤◌, length, take}
use Rattle.flow_directions.specs.internal.Tree.{IsTree}
use Rattle.flow_directions.proofs.tree.Tree.add_nodes.Given as goal

-- the nodes so far
abbrev pub invariant-nodes : goal.invariant-nodes
invariant-nodes g l = record {
  packs : l.self.packs ≡ l.fn.self.packs;
  tree : (threshold : ℕ) → IsTree g.V.Vector.CAP l.instance threshold l.fn.self →
      IsTree g.V.Vector.CAP l.instance threshold l.self;
  more : length l.fn.self.nodes.items ≤ length l.self.nodes.items;
  begin : take (length l.fn.self.nodes.items) l.self.nodes.items ≡ l.fn.self.nodes.items;
}

abbrev pub decreases-nodes : goal.decreases-nodes
decreases-nodes g l = l.count - length l.self.nodes.items
