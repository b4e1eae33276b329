use Rattle.std.proofs.Common.{◌≡◌, ◌+◌, ◌-◌, ◌*◌, ◌≤◌}
use Rattle.flow_shop.specs.Limits.{greatest_time, greatest_completion}
use Rattle.flow_shop.proofs.Recurrence.{after}
use Rattle.flow_shop.proofs.Fronts.{free_at}
use Rattle.flow_check.proofs.node.completion_of.Given as goal

abbrev pub invariant-loop-earlier : goal.invariant-loop-earlier
invariant-loop-earlier l = record {
  value : l.free ≡ after l.text.shop.now (free_at l.front) l.job (l.earlier - 1);
  small : l.free ≤ greatest_completion + (l.earlier - 1) * greatest_time;
}
