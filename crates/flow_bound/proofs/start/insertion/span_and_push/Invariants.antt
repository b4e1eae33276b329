use Rattle.std.proofs.Common.{◌≡◌, ℕ, ◌+◌, ◌-◌, ◌*◌, ◌<◌, ◌≤◌, length, map, slice_index}
use Rattle.flow_limits.specs.Limits.{most_machines, greatest_time, greatest_completion}
use Rattle.flow_shop.specs.Shop.{numbers}
use Rattle.flow_shop.specs.Least.{greatest}
use Rattle.flow_shop.proofs.Recurrence.{after}
use Rattle.flow_shop.proofs.Fronts.{free_at}
use Rattle.flow_bound.proofs.start.insertion.span_and_push.Given as goal

-- the job's completion time on the last machine so far, and the greatest sum of one and a tail so far; on the machines
-- so far the front is that of the longer list, and on the others as it was
abbrev pub invariant-loop-machine : goal.invariant-loop-machine
invariant-loop-machine l = record {
  completion : l.completion ≡ after l.instance (free_at l.initial.front) l.job (l.machine - 1);
  most : l.most ≡ greatest (map (λ machine. after l.instance (free_at l.initial.front) l.job machine
      + free_at l.tails machine) (numbers 1 (l.machine - 1)));
  completion_small : l.completion ≤ greatest_completion + (l.machine - 1) * greatest_time;
  most_small : l.most ≤ 2 * greatest_completion + (l.machine - 1) * greatest_time;
  free : l.free ≡ after l.instance (free_at l.initial.front) l.next (l.machine - 1);
  length : length l.front ≡ most_machines;
  free_small : l.free ≤ greatest_completion + (l.machine - 1) * greatest_time;
  done : (machine : ℕ) → 1 ≤ machine → machine < l.machine →
      free_at l.front machine ≡ after l.instance (free_at l.initial.front) l.next machine;
  others : (place : ℕ) → l.machine ≤ place + 1 → slice_index l.front place ≡ slice_index l.initial.front place;
}
