use Rattle.std.proofs.Common.{◌≡◌, ℕ, List, nat_le}
use Rattle.std.specs.List.{find}
use Rattle.flow_shop.specs.Shop.{numbers}
use Rattle.flow_shop.specs.Bound.{machine_bound}
use Rattle.flow_bound.specs.Loads.{AreLoadsOf}
use Rattle.flow_search.proofs.bounds.pruning_of_node_plain.Given as goal

-- no machine so far reaches the value
abbrev pub invariant-loop-machine : goal.invariant-loop-machine
invariant-loop-machine l =
    (jobs : List ℕ) → AreLoadsOf l.instance jobs l.loads →
    find (λ machine. nat_le l.value (machine_bound l.instance l.front jobs machine))
    (numbers l.machine l.instance.machines)
    ≡ find (λ machine. nat_le l.value (machine_bound l.instance l.front jobs machine)) (numbers 1 l.instance.machines)
