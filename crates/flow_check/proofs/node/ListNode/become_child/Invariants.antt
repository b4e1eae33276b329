use Rattle.std.proofs.Common.{◌≡◌, ℕ, ◌+◌, ◌-◌, ◌*◌, ◌≤◌, ◌<◌, length, slice_index}
use Rattle.flow_shop.specs.Limits.{most_machines, greatest_time, greatest_completion}
use Rattle.flow_shop.specs.Shop.{time}
use Rattle.flow_shop.proofs.Recurrence.{after}
use Rattle.flow_shop.proofs.Fronts.{free_at}
use Rattle.flow_shop.specs.TwoLeast.{least_of_none}
use Rattle.flow_check.proofs.node.ListNode.become_child.Given as goal

abbrev pub invariant-loop-machine : goal.invariant-loop-machine
invariant-loop-machine l = record {
  front_size : length l.self.front ≡ most_machines;
  work_size : length l.self.work ≡ most_machines;
  least_size : 1 < l.machine → length l.self.tails.least ≡ most_machines;
  second_size : 1 < l.machine → length l.self.tails.second ≡ most_machines;
  free : l.free ≡ after l.text.shop.now (free_at l.list.front) l.job (l.machine - 1);
  small : l.free ≤ greatest_completion + (l.machine - 1) * greatest_time;
  front : (machine : ℕ) → 1 ≤ machine → machine < l.machine →
      slice_index l.self.front (machine - 1) ≡ after l.text.shop.now (free_at l.list.front) l.job machine;
  work : (machine : ℕ) → 1 ≤ machine → machine < l.machine →
      slice_index l.self.work (machine - 1) + time l.text.shop.now l.job machine
      ≡ slice_index l.list.work (machine - 1);
  least : (machine : ℕ) → 1 ≤ machine → machine < l.machine →
      slice_index l.self.tails.least (machine - 1) ≡ least_of_none;
}
