use Rattle.std.proofs.Common.{◌≡◌, ◌-◌, List, ℕ, map}
use Rattle.flow_shop.specs.Shop.{numbers}
use Rattle.flow_shop.specs.Least.{greatest}
use Rattle.flow_shop.specs.Ends.{end_bound_at}
use Rattle.flow_nodes.specs.Nodes.{IsNode}
use Rattle.flow_nodes.proofs.node.Node.bound.Given as goal

abbrev pub invariant-loop-machine : goal.invariant-loop-machine
invariant-loop-machine l =
    (first last : List ℕ) → IsNode l.instance first last l.self →
    l.greatest ≡ greatest (map (end_bound_at l.instance first last) (numbers 1 (l.machine - 1)))
