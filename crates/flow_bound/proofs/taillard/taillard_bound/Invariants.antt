use Rattle.std.proofs.Common.{◌≡◌, ◌-◌, map, max}
use Rattle.flow_shop.specs.Least.{greatest}
use Rattle.flow_shop.specs.Shop.{numbers}
use Rattle.flow_bound.specs.Totals.{total}
use Rattle.flow_bound.specs.internal.Times.{AreTimes}
use Rattle.flow_bound.specs.Taillard.{machine_load}
use Rattle.flow_bound.proofs.taillard.taillard_bound.Given as goal

abbrev pub invariant-loop-machine : goal.invariant-loop-machine
invariant-loop-machine l = record {
  heads : AreTimes l.instance l.heads 1 (l.machine - 1);
  most : l.most ≡ max (greatest (map (machine_load l.instance) (numbers 1 (l.machine - 1)))) (greatest (map
      (total l.instance) (numbers 1 l.instance.jobs)));
}
