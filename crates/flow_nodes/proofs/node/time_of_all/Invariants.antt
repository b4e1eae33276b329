use Rattle.std.proofs.Common.{◌≡◌, ◌-◌, ◌*◌, ◌≤◌, not, [], sum_by}
use Rattle.std.specs.List.{filter}
use Rattle.flow_limits.specs.Limits.{greatest_time}
use Rattle.flow_shop.specs.Shop.{numbers, time}
use Rattle.flow_shop.specs.Sequences.{has}
use Rattle.flow_nodes.proofs.node.time_of_all.Given as goal

abbrev pub invariant-loop-job : goal.invariant-loop-job
invariant-loop-job l = record {
  value : l.total ≡ sum_by (λ job. time l.instance job l.machine) (filter (λ job. not (has [] job)) (numbers 1
      (l.job - 1)));
  small : l.total ≤ (l.job - 1) * greatest_time;
}
