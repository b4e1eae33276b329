use Rattle.std.proofs.Common.{◌≡◌, nat_le}
use Rattle.std.specs.List.{find}
use Rattle.flow_shop.specs.Shop.{numbers}
use Rattle.flow_shop.specs.JobSet.{members}
use Rattle.flow_shop.specs.Bound.{released_bound}
use Rattle.flow_search.proofs.release.pruning_of_node_released.Given as goal

-- no machine so far reaches the value
abbrev pub invariant-loop-machine : goal.invariant-loop-machine
invariant-loop-machine l =
    find (λ machine. nat_le l.value (released_bound l.setting.instance.now l.front (members l.set) machine))
    (numbers l.machine l.setting.instance.now.machines)
    ≡ find (λ machine. nat_le l.value (released_bound l.setting.instance.now l.front (members l.set) machine))
    (numbers 1 l.setting.instance.now.machines)
