-- What the groups of a node share at an end, as pairs.
use Rattle.std.specs.Prelude.{ℕ, ◌≡◌, ◌+◌, ◌<◌, ◌≤◌, List, slice_index}
use Rattle.flow_shop.specs.declared.end.End.{End}
use Rattle.flow_nodes.specs.declared.node.Node.{Node}
use Rattle.flow_nodes.specs.declared.pairs.EndPairs.{EndPairs}
use Rattle.flow_nodes.specs.internal.Spread.{at_end, at_other_end}

-- what a node has at a place fits below a cap, and into 32 bits
abbrev pub fits_at : ℕ → Node → ℕ → Type 0
fits_at cap node place =
    (slice_index node.front place + slice_index node.work place + slice_index node.back place ≤ cap)
    × (slice_index node.front place + slice_index node.work place + slice_index node.back place < 4294967295)

-- numbers that have the pair, for each of so many machines, of the time of the jobs left with what is at the other end,
-- which is no greater than a cap
abbrev pub AreRests : (ℕ → ℕ) → ℕ → ℕ → End → Node → List ℕ → Type 0
AreRests pair_of cap machines end node rest =
    (place : ℕ) → place < machines →
    (slice_index rest place ≡ pair_of (slice_index node.work place + slice_index (at_other_end end node) place))
    × (slice_index node.work place + slice_index (at_other_end end node) place ≤ cap)

-- pairs of what is at an end of a node, and of the time of the jobs left with what is at the other end
pub record IsPaired (pair_of : ℕ → ℕ) (cap machines : ℕ) (end : End) (node : Node) (pairs : EndPairs) : Type 0 where
  pub near : (place : ℕ) → place < machines →
      (slice_index pairs.near place ≡ pair_of (slice_index (at_end end node) place))
      × (slice_index (at_end end node) place ≤ cap)
  pub rest : AreRests pair_of cap machines end node pairs.rest
