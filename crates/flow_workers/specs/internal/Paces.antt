-- How much is searched in a round.
use Rattle.std.specs.Prelude.{ℕ, ◌+◌, ◌-◌, ◌*◌, ◌/◌, ◌^◌, ◌≤◌, min, max}
use Rattle.flow_workers.specs.declared.pace.Pace.{Pace}

-- a round of this pace may deal at least one node, and give it at least one direction
abbrev pub GoesOn : Pace → Type 0
GoesOn pace = (1 ≤ pace.nodes) × (1 ≤ pace.whole) × (1 ≤ pace.least) × (1 ≤ pace.left)

-- how many more directions pass a budget after so many: one more than are left of it, or the greatest number of 64 bits
abbrev pub left_of : ℕ → ℕ → ℕ
left_of budget written = min (budget - written + 1) (2 ^ 64 - 1)

-- about how many bytes a piece has of so many jobs
abbrev pub bytes_of_piece : ℕ → ℕ
bytes_of_piece jobs = 150 + 2 * jobs

-- the most bytes of pieces with which many nodes are dealt in a round
abbrev pub most_bytes : ℕ
most_bytes = 100000000

-- until there are so many directions, one worker searches one node alone, where there are so many jobs
abbrev pub first_alone : ℕ → ℕ
first_alone jobs = max (240000 / max jobs 1) 500

-- all workers share a round: there are as many directions, and no more bytes of pieces than `most_bytes`
abbrev pub IsShared : ℕ → ℕ → ℕ → Type 0
IsShared jobs pieces written = (first_alone jobs ≤ written) × (pieces * bytes_of_piece jobs ≤ most_bytes)

-- how many nodes are dealt to so many workers, in a round of so many directions
abbrev pub nodes_of : ℕ → ℕ → ℕ
nodes_of workers whole = min (whole / 100 + workers * 8) (2 ^ 64 - 1)
