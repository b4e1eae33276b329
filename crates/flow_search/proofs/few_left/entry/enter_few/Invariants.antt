use Rattle.std.proofs.Common.{◌≡◌, ℕ, ◌+◌, ◌-◌, ◌*◌, ◌<◌, ◌≤◌, length, slice_index}
use Rattle.flow_limits.specs.Limits.{most_machines, greatest_time}
use Rattle.flow_shop.specs.Shop.{time_between}
use Rattle.flow_search.proofs.ColumnsEntered.{AreDone}
use Rattle.flow_search.proofs.few_left.entry.enter_few.Given as goal

abbrev pub invariant-loop-machine : goal.invariant-loop-machine
invariant-loop-machine l = record {
  most : l.machine ≤ l.instance.machines;
  rows_size : length l.group.rows ≡ most_machines;
  front_size : length l.frame.front ≡ most_machines;
  sum_size : length l.frame.sum ≡ most_machines;
  behind : (column : ℕ) → column < length l.jobs → slice_index l.behind column ≡ time_between l.instance
      (slice_index l.jobs column) (l.machine + 1) l.instance.machines;
  small : (column : ℕ) → column < 8 → slice_index l.behind column ≤ (l.instance.machines - l.machine) * greatest_time;
  done : AreDone l.instance l.front l.jobs l.group.rows l.frame.front l.frame.sum l.machine;
}

abbrev pub decreases-loop-machine : goal.decreases-loop-machine
decreases-loop-machine l = l.machine
