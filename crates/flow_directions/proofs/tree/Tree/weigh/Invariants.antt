use Rattle.std.proofs.Common.{◌≡◌, ℕ, ◌+◌, ◌-◌, ◌*◌, ◌≤◌, ◌<◌, true, false, List, ◌++◌, sum_by, length}
use Rattle.std.proofs.Common.{take, slice_index_or}
use Rattle.flow_nodes.specs.Marks.{mark}
use Rattle.flow_nodes.specs.Packs.{jobs_at, left_below}
use Rattle.flow_nodes.specs.declared.pack.Pack.{Pack}
use Rattle.flow_directions.specs.Search.{weight}
use Rattle.flow_nodes.specs.Open.{children_at}
use Rattle.flow_directions.specs.internal.Tree.{AreKept, IsOpenAt, IsTree}
use Rattle.flow_nodes.specs.declared.open.OpenNode.{OpenNode}
use Rattle.flow_directions.proofs.WeightSteps.{fewest_at}
use Rattle.flow_directions.proofs.tree.Tree.weigh.Given as goal

-- what the children that are left add makes the whole weight, and those before them are kept
abbrev pub invariant-children : goal.invariant-children
invariant-children g l = record {
  packs : l.self.packs ≡ l.fn.self.packs;
  size : length l.self.nodes.items ≡ length l.fn.self.nodes.items;
  above : take l.weighing.to l.self.nodes.items ≡ take l.weighing.to l.fn.self.nodes.items;
  tree : (threshold : ℕ) → IsTree g.V.Vector.CAP l.instance threshold l.fn.self →
      IsTree g.V.Vector.CAP l.instance threshold l.self;
  before : (place : ℕ) → place < l.next → mark l.rest.words place ≡ 0;
  marked : (place : ℕ) (empty : OpenNode g.row.V.Denot) → mark l.rest.words place ≡ 1 →
      mark (children_at l.weighing.end (slice_index_or l.fn.self.nodes.items l.at empty)).below.words place ≡ 1;
  behind : l.weighing.to ≤ l.to;
  same : l.weighing.keeps ≡ false → l.to ≡ l.weighing.to;
  room : (none : Pack g.row.V.Denot) → l.weighing.keeps ≡ true →
      l.to + length (jobs_at (slice_index_or l.fn.self.packs.items (l.groups - 1) none) l.rest)
      ≤ length l.fn.self.nodes.items;
  small : (none : Pack g.row.V.Denot) →
      l.weight + 800 * length (jobs_at (slice_index_or l.fn.self.packs.items (l.groups - 1) none) l.rest) ≤ 640000;
  sum : (threshold : ℕ) (first last : List ℕ) (none : Pack g.row.V.Denot) →
      IsTree g.V.Vector.CAP l.instance threshold l.fn.self →
      IsOpenAt g.V.Vector.list g.V.Vector.CAP g.V.Vector.WIDTH l.instance threshold first last l.groups l.at
      l.fn.self.packs.items l.fn.self.nodes.items →
      l.weight + sum_by (fewest_at l.instance threshold l.weighing.end first last)
      (jobs_at (slice_index_or l.fn.self.packs.items (l.groups - 1) none) l.rest)
      ≡ weight l.instance threshold l.weighing.end first last;
  kept : (threshold : ℕ) (first last : List ℕ) (none : Pack g.row.V.Denot) →
      IsTree g.V.Vector.CAP l.instance threshold l.fn.self →
      IsOpenAt g.V.Vector.list g.V.Vector.CAP g.V.Vector.WIDTH l.instance threshold first last l.groups l.at
      l.fn.self.packs.items l.fn.self.nodes.items → l.weighing.keeps ≡ true →
      (done : List ℕ)
      × (done ++ jobs_at (slice_index_or l.fn.self.packs.items (l.groups - 1) none) l.rest
      ≡ left_below l.instance threshold l.weighing.end first last)
      × (l.to ≡ l.weighing.to + length done)
      × AreKept g.V.Vector.list g.V.Vector.CAP g.V.Vector.WIDTH l.instance threshold l.weighing.end first last l.groups done
      l.weighing.to l.self.packs.items l.self.nodes.items;
}

abbrev pub decreases-children : goal.decreases-children
decreases-children g l = l.groups * 16 - l.next
