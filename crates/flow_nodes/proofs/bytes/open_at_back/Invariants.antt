use Rattle.std.proofs.Common.{◌≡◌, ℕ, ◌+◌, ◌<◌, ◌≤◌, List, ◌∷◌, length, map, slice_index}
use Rattle.flow_shop.specs.Shop.{Shop, numbers}
use Rattle.flow_shop.specs.Least.{greatest}
use Rattle.flow_shop.specs.Ends.{back}
use Rattle.flow_shop.specs.declared.end.End.TheVariants.{Back}
use Rattle.flow_nodes.specs.Vectors.{HasLane}
use Rattle.flow_nodes.specs.Nodes.{IsNode}
use Rattle.flow_nodes.specs.Groups.{IsGroup}
use Rattle.flow_nodes.specs.internal.Children.{back_child_at}
use Rattle.flow_nodes.specs.internal.Bytes.{HaveGaps, HaveSlacks}
use Rattle.flow_nodes.specs.declared.node.Node.{Node}
use Rattle.flow_nodes.proofs.bytes.open_at_back.Given as goal

-- the lanes have how late the jobs are at least, and something but zero only where the limit is reached so far
abbrev pub invariant-loop-machine : goal.invariant-loop-machine
invariant-loop-machine g l = record {
  within : l.machine ≤ length l.times;
  late : (shop : Shop) (first last jobs : List ℕ) (node : Node) (lane : ℕ) → IsNode shop first last node →
      HaveGaps Back node l.gaps → IsGroup (λ lanes. lanes) 255 16 shop jobs l.times → lane < 16 →
      (number : ℕ) × HasLane 255 16 l.late lane number × (l.machine ≡ length l.times → number ≡ 0)
      × (l.machine < length l.times → slice_index node.back l.machine + number
      ≤ back shop (slice_index jobs lane ∷ last) (l.machine + 1));
  over : (shop : Shop) (first last jobs : List ℕ) (node : Node) (limit lane : ℕ) → IsNode shop first last node →
      HaveGaps Back node l.gaps → HaveSlacks limit node l.slacks →
      IsGroup (λ lanes. lanes) 255 16 shop jobs l.times → lane < 16 →
      (number : ℕ) × HasLane 255 16 l.over lane number
      × (0 < number → limit
      ≤ greatest (map (back_child_at shop first last (slice_index jobs lane)) (numbers (l.machine + 1) shop.machines)));
}

abbrev pub decreases-loop-machine : goal.decreases-loop-machine
decreases-loop-machine g l = l.machine
