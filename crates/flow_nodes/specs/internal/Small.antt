-- Numbers of a node that fit into lanes.
use Rattle.std.specs.Prelude.{ℕ, ◌+◌, ◌<◌, ◌≤◌, slice_index}
use Rattle.flow_nodes.specs.declared.node.Node.{Node}

-- the sum of what a node has on each of so many machines is no greater than a cap, and fits into 32 bits
abbrev pub IsSmall : ℕ → ℕ → Node → Type 0
IsSmall cap machines node =
    (place : ℕ) → place < machines →
    (slice_index node.front place + slice_index node.work place + slice_index node.back place ≤ cap)
    × (slice_index node.front place + slice_index node.work place + slice_index node.back place < 4294967295)
