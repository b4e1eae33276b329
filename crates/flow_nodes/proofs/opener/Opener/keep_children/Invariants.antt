use Rattle.std.proofs.Common.{◌≡◌, ◌↔◌, ℕ, ◌/◌, ◌%◌, ◌<◌, ◌≤◌, false, List, ◌++◌, length, slice_index_or}
use Rattle.std.specs.Global.{Vec}
use Rattle.std.specs.Prelude.{Some, None}
use Rattle.flow_shop.specs.Shop.{Shop}
use Rattle.flow_shop.specs.Sequences.{has}
use Rattle.flow_shop.specs.declared.end.End.{End}
use Rattle.flow_nodes.specs.Vectors.{limit_of}
use Rattle.flow_nodes.specs.Nodes.{IsJob, IsNode}
use Rattle.flow_nodes.specs.Groups.{child_bound, most_groups}
use Rattle.flow_nodes.specs.Marks.{mark}
use Rattle.flow_nodes.specs.Open.{HasStartRoom, HasStarts, HasStartsAndBound}
use Rattle.flow_nodes.specs.internal.Pairs.{AreRests}
use Rattle.flow_nodes.specs.declared.node.Node.{Node}
use Rattle.flow_nodes.proofs.opener.Opener.keep_children.Given as goal

-- the words so far have their marks, and the groups with marks their starts
abbrev pub invariant-loop-group : goal.invariant-loop-group
invariant-loop-group g l = record {
  size : length l.children.below.words ≡ most_groups;
  room : (shop : Shop) (count : ℕ) → HasStartRoom shop count l.fn.children.starts.items →
      HasStartRoom shop count l.children.starts.items;
  within : (place : ℕ) → place / 16 < l.group → mark l.children.below.words place ≡ 1 →
      mark l.fn.children.below.words place ≡ 1;
  later : (place : ℕ) → l.group ≤ place / 16 →
      mark l.children.below.words place ≡ mark l.fn.children.below.words place;
  exact : (shop : Shop) (threshold : ℕ) (end : End) (first last : List ℕ) (job : ℕ) (node : Node) (place : ℕ) →
      l.self.limit ≡ limit_of threshold → HasStartRoom shop l.groups l.parent.starts.items →
      IsNode shop first last node → AreRests g.V.Vector.pair_of g.V.Vector.CAP shop.machines end node l.rest →
      IsJob shop job →
      has (first ++ last) job ≡ false → place / 16 < l.group → mark l.fn.children.below.words place ≡ 1 →
      ((none : Vec g.row.V.Denot) → HasStarts g.V.Vector.list g.V.Vector.CAP g.V.Vector.WIDTH shop end first last job
      (place % 16) (slice_index_or l.parent.starts.items (place / 16) none).items) →
      mark l.children.below.words place ≡ 1 ↔ (child_bound shop end first last job < threshold);
  bound_count : length l.children.bounds.items ≡ length l.fn.children.bounds.items;
  known : (place : ℕ) (old : g.row.V.Denot) → place / 16 < l.group → mark l.children.below.words place ≡ 1 →
      slice_index_or l.parent.bounds.items (place / 16) None ≡ Some old →
      (bounds : g.row.V.Denot) × (slice_index_or l.children.bounds.items (place / 16) None ≡ Some bounds);
  whole : (shop : Shop) (end : End) (first last : List ℕ) (job : ℕ) (node : Node) (place : ℕ)
      (none : Vec g.row.V.Denot) (bounds : g.row.V.Denot) → HasStartRoom shop l.groups l.parent.starts.items →
      IsNode shop first last node → AreRests g.V.Vector.pair_of g.V.Vector.CAP shop.machines end node l.rest →
      IsJob shop job → has (first ++ last) job ≡ false → place / 16 < l.group →
      slice_index_or l.children.bounds.items (place / 16) None ≡ Some bounds →
      ((old : g.row.V.Denot) → slice_index_or l.parent.bounds.items (place / 16) None ≡ Some old →
      HasStarts g.V.Vector.list g.V.Vector.CAP g.V.Vector.WIDTH shop end first last job (place % 16)
      (slice_index_or l.parent.starts.items (place / 16) none).items) →
      HasStartsAndBound g.V.Vector.list g.V.Vector.CAP g.V.Vector.WIDTH shop end first last job (place % 16)
      (slice_index_or l.children.starts.items (place / 16) none).items bounds;
}
