use Rattle.std.proofs.Common.{◌≡◌, ◌⊎◌, ℕ, ◌/◌, ◌%◌, ◌<◌, ◌≤◌, false, List, ◌++◌, length, slice_index}
use Rattle.std.proofs.Common.{slice_index_or}
use Rattle.std.specs.Global.{Vec}
use Rattle.flow_shop.specs.Shop.{Shop}
use Rattle.flow_shop.specs.Sequences.{has}
use Rattle.flow_nodes.specs.Vectors.{limit_of}
use Rattle.flow_nodes.specs.Nodes.{IsNode}
use Rattle.flow_nodes.specs.Groups.{IsGroup, child_bound, most_groups}
use Rattle.flow_nodes.specs.Marks.{mark}
use Rattle.flow_nodes.specs.internal.Bytes.{HaveGaps, HaveSlacks}
use Rattle.flow_nodes.specs.declared.node.Node.{Node}
use Rattle.flow_nodes.proofs.opener.Opener.mark_open.Given as goal

-- the words so far have their marks
abbrev pub invariant-loop-group : goal.invariant-loop-group
invariant-loop-group g l = record {
  size : length l.kept.words ≡ most_groups;
  within : (place : ℕ) → place / 16 < l.group → mark l.kept.words place ≡ 1 → mark l.left.words place ≡ 1;
  rest : (shop : Shop) (threshold : ℕ) (first last jobs : List ℕ) (node : Node) (place : ℕ)
      (none : Vec (List ℕ)) → l.self.limit ≡ limit_of threshold → IsNode shop first last node →
      HaveGaps l.end node l.self.gaps.items → HaveSlacks l.self.limit node l.self.slacks.items →
      place / 16 < l.group →
      IsGroup (λ (lanes : List ℕ). lanes) 255 16 shop jobs (slice_index_or l.groups (place / 16) none).items →
      mark l.left.words place ≡ 1 → has (first ++ last) (slice_index jobs (place % 16)) ≡ false →
      (mark l.kept.words place ≡ 1) ⊎ (threshold ≤ child_bound shop l.end first last (slice_index jobs (place % 16)));
  none : l.union ≡ 0 → (place : ℕ) → place / 16 < l.group → mark l.kept.words place ≡ 0;
}
