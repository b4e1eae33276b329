use Rattle.std.proofs.Common.{◌≡◌, ℕ, ◌+◌, ◌-◌, ◌<◌, slice_index}
use Rattle.flow_nodes.proofs.pairs.pairs_of_sums.Given as goal

-- the pairs so far
abbrev pub invariant-fours : goal.invariant-fours
invariant-fours g l = record {
  done : (place : ℕ) → place < l.at → place < l.machines →
      slice_index l.pairs place ≡ g.V.Vector.pair_of (slice_index l.first place + slice_index l.second place);
}

abbrev pub decreases-fours : goal.decreases-fours
decreases-fours g l = l.count - l.at
