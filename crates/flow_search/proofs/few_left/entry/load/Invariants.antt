use Rattle.std.proofs.Common.{◌≡◌, ◌*◌, ◌≤◌, take}
use Rattle.std.specs.List.{sum_by}
use Rattle.flow_limits.specs.Limits.{greatest_time}
use Rattle.flow_shop.specs.Shop.{time}
use Rattle.flow_search.proofs.few_left.entry.load.Given as goal

abbrev pub invariant-loop-column : goal.invariant-loop-column
invariant-loop-column l = record {
  value : l.total ≡ sum_by (λ job. time l.instance job l.machine) (take l.column l.jobs);
  small : l.total ≤ l.column * greatest_time;
}
