use Rattle.std.proofs.Common.{◌≡◌, ◌↔◌, ℕ, ◌/◌, ◌%◌, ◌<◌, false, List, ◌++◌, length, slice_index}
use Rattle.std.proofs.Common.{slice_index_or}
use Rattle.std.specs.Prelude.{Some, None}
use Rattle.std.specs.Global.{Vec}
use Rattle.flow_shop.specs.Shop.{Shop}
use Rattle.flow_shop.specs.Sequences.{has}
use Rattle.flow_nodes.specs.Vectors.{limit_of}
use Rattle.flow_nodes.specs.Nodes.{IsNode}
use Rattle.flow_nodes.specs.Groups.{IsGroup, child_bound, most_groups}
use Rattle.flow_nodes.specs.Marks.{mark}
use Rattle.flow_nodes.specs.Open.{HasStartRoom, HasStartsAndBound}
use Rattle.flow_nodes.specs.internal.Pairs.{IsPaired}
use Rattle.flow_nodes.specs.declared.node.Node.{Node}
use Rattle.flow_nodes.proofs.opener.Opener.find_children.Given as goal

-- the words so far have their marks, and the groups with jobs left their starts
abbrev pub invariant-loop-group : goal.invariant-loop-group
invariant-loop-group g l = record {
  size : length l.children.below.words ≡ most_groups;
  room : (shop : Shop) (count : ℕ) → HasStartRoom shop count l.fn.children.starts.items →
      HasStartRoom shop count l.children.starts.items;
  within : (place : ℕ) → place / 16 < l.group → mark l.children.below.words place ≡ 1 →
      mark l.left.words place ≡ 1;
  exact : (shop : Shop) (threshold : ℕ) (first last jobs : List ℕ) (node : Node) (place : ℕ)
      (none : Vec g.row.V.Denot) → l.self.limit ≡ limit_of threshold → IsNode shop first last node →
      IsPaired g.V.Vector.pair_of g.V.Vector.CAP l.self.machines l.end node l.pairs →
      place / 16 < l.group →
      IsGroup g.V.Vector.list g.V.Vector.CAP g.V.Vector.WIDTH shop jobs
      (slice_index_or l.groups (place / 16) none).items →
      mark l.left.words place ≡ 1 → has (first ++ last) (slice_index jobs (place % 16)) ≡ false →
      mark l.children.below.words place ≡ 1
      ↔ (child_bound shop l.end first last (slice_index jobs (place % 16)) < threshold);
  bound_count : length l.children.bounds.items ≡ length l.fn.children.bounds.items;
  known : (place : ℕ) → place / 16 < l.group → mark l.children.below.words place ≡ 1 →
      (bounds : g.row.V.Denot) × (slice_index_or l.children.bounds.items (place / 16) None ≡ Some bounds);
  whole : (shop : Shop) (first last jobs : List ℕ) (node : Node) (place : ℕ) (none : Vec g.row.V.Denot)
      (bounds : g.row.V.Denot) → IsNode shop first last node →
      IsPaired g.V.Vector.pair_of g.V.Vector.CAP l.self.machines l.end node l.pairs →
      place / 16 < l.group →
      IsGroup g.V.Vector.list g.V.Vector.CAP g.V.Vector.WIDTH shop jobs
      (slice_index_or l.groups (place / 16) none).items →
      mark l.left.words place ≡ 1 → has (first ++ last) (slice_index jobs (place % 16)) ≡ false →
      slice_index_or l.children.bounds.items (place / 16) None ≡ Some bounds →
      HasStartsAndBound g.V.Vector.list g.V.Vector.CAP g.V.Vector.WIDTH shop l.end first last
      (slice_index jobs (place % 16)) (place % 16) (slice_index_or l.children.starts.items (place / 16) none).items
      bounds;
}
