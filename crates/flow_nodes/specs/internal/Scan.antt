-- The greatest of several numbers, and the numbers of a child whose greatest ones are its fronts and its backs.
use Rattle.std.specs.Prelude.{ℕ, zero, suc, ◌+◌, ◌-◌, List, slice_index, max}

-- the greatest of the first numbers, so many
unfoldable pub greatest_to : (ℕ → ℕ) → ℕ → ℕ
greatest_to number zero = 0
greatest_to number (suc count) = max (greatest_to number count) (number count)

-- the greatest of so many numbers from a place on
unfoldable pub greatest_from : (ℕ → ℕ) → ℕ → ℕ → ℕ
greatest_from number zero place = 0
greatest_from number (suc count) place = max (greatest_from number count (place + 1)) (number place)

-- when a job that begins on a machine once it is free is done on all machines, if it never waits
abbrev pub done_at : List ℕ → List ℕ → List ℕ → ℕ → ℕ
done_at fronts times tails place = slice_index fronts place + (slice_index times place + slice_index tails place)

-- how long before the end a job begins on machine 1 that is done on a machine at its back, if it never waits; its time
-- on all machines stands for 26000000
abbrev pub begun_at : List ℕ → List ℕ → ℕ → ℕ
begun_at backs tails place = slice_index backs place + (26000000 - slice_index tails place)
