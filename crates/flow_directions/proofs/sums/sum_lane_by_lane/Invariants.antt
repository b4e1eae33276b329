use Rattle.std.proofs.Common.{◌≡◌, ℕ, ◌+◌, ◌*◌, ◌<◌, ◌≤◌, false, List, ◌++◌, sum_by, slice_index, drop}
use Rattle.std.specs.Int.{bit_at}
use Rattle.flow_shop.specs.Sequences.{has}
use Rattle.flow_nodes.specs.Nodes.{IsNode}
use Rattle.flow_nodes.specs.Groups.{IsGroup, child_bound}
use Rattle.flow_nodes.specs.Marks.{picked}
use Rattle.flow_directions.proofs.sums.sum_lane_by_lane.Given as goal

-- what is left to add makes the whole sum
abbrev pub invariant-loop-lane : goal.invariant-loop-lane
invariant-loop-lane g l = record {
  small : l.sum ≤ l.lane * 4294967295;
  rest : (first last : List ℕ) → IsNode l.instance first last l.node →
      IsGroup g.V.Vector.list g.V.Vector.CAP g.V.Vector.WIDTH l.instance l.names l.group →
      ((lane : ℕ) → lane < 16 → bit_at l.left lane ≡ 1 → has (first ++ last) (slice_index l.names lane) ≡ false) →
      l.sum + sum_by (child_bound l.instance l.end first last) (picked l.left l.lane (drop l.lane l.names))
      ≡ sum_by (child_bound l.instance l.end first last) (picked l.left 0 l.names);
}
