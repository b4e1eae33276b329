use Rattle.std.proofs.Common.{◌≡◌, ℕ, ◌+◌, ◌-◌, ◌<◌, ◌≤◌, List, [], ◌∷◌, ◌++◌, map, slice_index}
use Rattle.flow_shop.specs.Shop.{Shop, numbers}
use Rattle.flow_shop.specs.Least.{greatest}
use Rattle.flow_shop.specs.Ends.{front}
use Rattle.flow_shop.specs.declared.end.End.TheVariants.{Front}
use Rattle.flow_nodes.specs.Vectors.{HasLane}
use Rattle.flow_nodes.specs.Nodes.{IsNode}
use Rattle.flow_nodes.specs.Groups.{IsGroup}
use Rattle.flow_nodes.specs.internal.Children.{front_child_at}
use Rattle.flow_nodes.specs.internal.Bytes.{HaveGaps, HaveSlacks}
use Rattle.flow_nodes.specs.declared.node.Node.{Node}
use Rattle.flow_nodes.proofs.bytes.open_at_front.Given as goal

-- the lanes have how late the jobs are at least, and something but zero only where the limit is reached so far
abbrev pub invariant-loop-place : goal.invariant-loop-place
invariant-loop-place g l = record {
  late : (shop : Shop) (first last jobs : List ℕ) (node : Node) (lane : ℕ) → IsNode shop first last node →
      HaveGaps Front node l.gaps → IsGroup (λ lanes. lanes) 255 16 shop jobs l.times → lane < 16 →
      (number : ℕ) × HasLane 255 16 l.late lane number × (l.place ≡ 0 → number ≡ 0)
      × (0 < l.place → slice_index node.front (l.place - 1) + number
      ≤ front shop (first ++ slice_index jobs lane ∷ []) l.place);
  over : (shop : Shop) (first last jobs : List ℕ) (node : Node) (limit lane : ℕ) → IsNode shop first last node →
      HaveGaps Front node l.gaps → HaveSlacks limit node l.slacks →
      IsGroup (λ lanes. lanes) 255 16 shop jobs l.times → lane < 16 →
      (number : ℕ) × HasLane 255 16 l.over lane number
      × (0 < number → limit ≤ greatest (map (front_child_at shop first last (slice_index jobs lane)) (numbers 1 l.place)));
}
