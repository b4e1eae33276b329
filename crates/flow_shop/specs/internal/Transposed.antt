-- How an instance keeps its times, job by job, where the definitions have them machine by machine.
use Rattle.std.specs.Prelude.{ℕ, ◌+◌, ◌*◌, ◌/◌, ◌%◌, List, map, slice_index}
use Rattle.std.specs.List.{range_with_len}

-- the numbers of n lists of m each, one list after another, with rows and columns exchanged: taken column by column
abbrev pub transposed : ℕ → ℕ → List ℕ → List ℕ
transposed n m numbers = map (λ place. slice_index numbers (place % n * m + place / n)) (range_with_len 0 (n * m))
