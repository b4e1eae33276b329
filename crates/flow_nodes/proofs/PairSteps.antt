-- Pairs of numbers, and the constant that the number of machines may be.
use Rattle.std.proofs.Common.{◌≡◌, ℕ, ◌<◌, ◌≤◌, List, sym, subst, arith}
use Rattle.std.specs.Prelude.{◌⊎◌}
use Rattle.flow_shop.specs.Shop.{Shop}
use Rattle.flow_shop.specs.Ends.{end_bound}
use Rattle.flow_nodes.specs.Vectors.{limit_of}
use Rattle.flow_nodes.specs.Nodes.{IsNode}
use Rattle.flow_nodes.specs.internal.Pairs.{fits_at}
use Rattle.flow_nodes.specs.declared.node.Node.{Node}
use Rattle.flow_nodes.proofs.SpreadSteps.{node-within, node-small-bound}

-- a constant that is 0 or a number is 0 or the same number
pub constant-is : {given is was : ℕ} → is ≡ was → (given ≡ 0) ⊎ (given ≡ was) → (given ≡ 0) ⊎ (given ≡ is)
constant-is {given} e known = subst (λ n. (given ≡ 0) ⊎ (given ≡ n)) (sym e) known

-- what a node below its threshold has on each machine fits below the cap
pub node-fits : (shop : Shop) (first last : List ℕ) (node : Node) (cap number limit : ℕ) →
    IsNode shop first last node → end_bound shop first last < number → limit ≡ limit_of number → limit ≤ cap →
    (place : ℕ) → place < shop.machines → fits_at cap node place
node-fits shop first last node cap number limit is under limit_is capped place low =
    let small = node-small-bound shop first last node is in
    let within = node-within shop first last node place is low in (
      omega (arith, within, under, limit_is, capped, small),
      omega (arith, within, small),
    )
