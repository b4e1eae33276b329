use Rattle.std.proofs.Common.{◌≡◌, ◌↔◌, ℕ, ◌/◌, ◌%◌, ◌<◌, ◌≤◌, false, List, ◌++◌, length, slice_index}
use Rattle.std.proofs.Common.{slice_index_or}
use Rattle.std.specs.Global.{Vec}
use Rattle.flow_shop.specs.Shop.{Shop}
use Rattle.flow_shop.specs.Sequences.{has}
use Rattle.flow_nodes.specs.Vectors.{limit_of}
use Rattle.flow_nodes.specs.Nodes.{IsNode}
use Rattle.flow_nodes.specs.Groups.{IsGroup, child_bound, most_groups}
use Rattle.flow_nodes.specs.Marks.{mark}
use Rattle.flow_nodes.proofs.node.Node.mark_below.Given as goal

-- the words so far have their marks, and the others those from before
abbrev pub invariant-loop-group : goal.invariant-loop-group
invariant-loop-group g l = record {
  size : length l.below.words ≡ most_groups;
  rest : (place : ℕ) → l.group ≤ place / 16 → mark l.below.words place ≡ mark l.initial.below.words place;
  within : (place : ℕ) → place / 16 < l.group → mark l.below.words place ≡ 1 → mark l.left.words place ≡ 1;
  exact : (shop : Shop) (threshold : ℕ) (first last jobs : List ℕ) (place : ℕ) (none : Vec g.row.V.Denot) →
      l.limit ≡ limit_of threshold → IsNode shop first last l.self → place / 16 < l.group →
      IsGroup g.V.Vector.list g.V.Vector.CAP g.V.Vector.WIDTH shop jobs
      (slice_index_or l.groups (place / 16) none).items →
      mark l.left.words place ≡ 1 → has (first ++ last) (slice_index jobs (place % 16)) ≡ false →
      mark l.below.words place ≡ 1 ↔ (child_bound shop l.end first last (slice_index jobs (place % 16)) < threshold);
}
