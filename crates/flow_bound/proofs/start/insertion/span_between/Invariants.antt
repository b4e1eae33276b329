use Rattle.std.proofs.Common.{◌≡◌, ◌+◌, ◌-◌, ◌*◌, ◌≤◌, map}
use Rattle.flow_limits.specs.Limits.{greatest_time, greatest_completion}
use Rattle.flow_shop.specs.Shop.{numbers}
use Rattle.flow_shop.specs.Least.{greatest}
use Rattle.flow_shop.proofs.Recurrence.{after}
use Rattle.flow_shop.proofs.Fronts.{free_at}
use Rattle.flow_bound.proofs.start.insertion.span_between.Given as goal

-- the job's completion time on the last machine so far, and the greatest sum of one and a tail so far
abbrev pub invariant-loop-machine : goal.invariant-loop-machine
invariant-loop-machine l = record {
  completion : l.completion ≡ after l.instance (free_at l.front) l.job (l.machine - 1);
  most : l.most ≡ greatest (map (λ machine. after l.instance (free_at l.front) l.job machine
      + free_at l.tails machine) (numbers 1 (l.machine - 1)));
  completion_small : l.completion ≤ greatest_completion + (l.machine - 1) * greatest_time;
  most_small : l.most ≤ 2 * greatest_completion + (l.machine - 1) * greatest_time;
}
