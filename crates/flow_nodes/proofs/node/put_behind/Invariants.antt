use Rattle.std.proofs.Common.{◌≡◌, ℕ, ◌-◌, ◌≤◌, ◌+◌, ◌*◌, ◌<◌, slice_index, length}
use Rattle.flow_limits.specs.Limits.{most_machines, greatest_time, greatest_completion}
use Rattle.flow_shop.proofs.Recurrence.{after}
use Rattle.flow_shop.proofs.Fronts.{free_at}
use Rattle.flow_nodes.proofs.node.put_behind.Given as goal

-- the machines so far are those of the longer list, and the others as they were
abbrev pub invariant-loop-machine : goal.invariant-loop-machine
invariant-loop-machine l = record {
  end : l.end ≡ l.instance.machines + 1;
  free : l.free ≡ after l.instance (free_at l.initial.fronts) l.job (l.machine - 1);
  length : length l.fronts ≡ most_machines;
  small : l.free ≤ greatest_completion + (l.machine - 1) * greatest_time;
  done : (machine : ℕ) → 1 ≤ machine → machine < l.machine →
      free_at l.fronts machine ≡ after l.instance (free_at l.initial.fronts) l.job machine;
  others : (place : ℕ) → l.machine ≤ place + 1 → slice_index l.fronts place ≡ slice_index l.initial.fronts place;
}
