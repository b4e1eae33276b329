use Rattle.std.proofs.Common.{◌≡◌, ◌-◌, map}
use Rattle.flow_shop.specs.Shop.{numbers, time_between}
use Rattle.flow_shop.specs.Least.{least}
use Rattle.flow_nodes.proofs.node.least_between.Given as goal

abbrev pub invariant-loop-job : goal.invariant-loop-job
invariant-loop-job l =
    l.least ≡ least (map (λ job. time_between l.instance job l.first l.last) (numbers 1 (l.job - 1)))
