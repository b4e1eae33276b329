use Rattle.std.proofs.Common.{◌≡◌, ◌-◌, map}
use Rattle.flow_shop.specs.Least.{greatest}
use Rattle.flow_shop.specs.Shop.{numbers}
use Rattle.flow_bound.specs.Totals.{total}
use Rattle.flow_bound.proofs.taillard.greatest_total.Given as goal

abbrev pub invariant-loop-job : goal.invariant-loop-job
invariant-loop-job l = l.most ≡ greatest (map (total l.instance) (numbers 1 (l.job - 1)))
