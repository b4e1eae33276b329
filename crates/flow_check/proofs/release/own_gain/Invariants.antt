use Rattle.std.proofs.Common.{◌≡◌, ◌+◌, ◌-◌, map, slice_index}
use Rattle.flow_shop.specs.Shop.{numbers}
use Rattle.flow_shop.specs.Least.{greatest}
use Rattle.flow_check.proofs.release.own_gain.Given as goal

abbrev pub invariant-loop-from : goal.invariant-loop-from
invariant-loop-from l =
    l.release ≡ greatest (map
    (λ from. slice_index l.node.front (from - 1) + slice_index l.lags.least (from - 1)) (numbers 1 (l.from - 1)))
