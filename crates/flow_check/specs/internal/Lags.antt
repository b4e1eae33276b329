-- The two least lags, to a machine, of the jobs left. A job's lag from a machine to another is its time on the machines
-- from there to the one before the other.
use Rattle.std.specs.Prelude.{ℕ, ◌≡◌, ◌-◌, ◌<◌, ◌≤◌, List, length, slice_index_or, Option, None, IfSome}
use Rattle.flow_shop.specs.Shop.{Shop}
use Rattle.flow_shop.specs.Sequences.{jobs_left}
use Rattle.flow_shop.specs.TwoLeast.{AreTwoLeast, time_to}
use Rattle.flow_shop.specs.declared.least_pairs.LeastPairs.{LeastPairs}

-- the two least lags of the jobs left, to a machine, from each machine up to it
abbrev pub AreTwoLeastLagsTo : Shop → List ℕ → ℕ → LeastPairs → Type 0
AreTwoLeastLagsTo shop list machine two =
    AreTwoLeast (time_to shop machine) machine (jobs_left shop.jobs list) two

-- no lags are known
abbrev pub AreUnknown : List (Option LeastPairs) → Type 0
AreUnknown kept = (place : ℕ) → place < length kept → slice_index_or kept place None ≡ None

-- the two least lags to each machine that has a place, where they are known
abbrev pub AreKept : Shop → List ℕ → List (Option LeastPairs) → Type 0
AreKept shop list kept =
    (machine : ℕ) → 1 ≤ machine → machine ≤ length kept →
    IfSome (slice_index_or kept (machine - 1) None) (λ two. AreTwoLeastLagsTo shop list machine two)
