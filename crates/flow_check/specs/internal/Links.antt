-- The jobs left, linked: from 0 and from each job left a link leads to the next job left.
use Rattle.std.specs.Prelude.{ℕ, zero, suc, ◌≡◌, ◌+◌, ◌≤◌, ◌<◌, true, false, List, length, slice_index}
use Rattle.flow_shop.specs.Sequences.{has}

-- the next job after one that a list does not have; 0 where there is none
abbrev pub IsNext : ℕ → List ℕ → ℕ → ℕ → Type 0
IsNext n list job zero = (k : ℕ) → job < k → k ≤ n → has list k ≡ true
IsNext n list job (suc next) =
    (job < suc next) × (suc next ≤ n) × (has list (suc next) ≡ false)
    × ((k : ℕ) → job < k → k < suc next → has list k ≡ true)

-- a place of the links: 0, or a job that is left
abbrev pub IsPlace : ℕ → List ℕ → ℕ → Type 0
IsPlace n list job = (job ≤ n) × (1 ≤ job → has list job ≡ false)

-- from 0 and from each job left a link leads to the next one
pub record AreLinks (n : ℕ) (list links : List ℕ) : Type 0 where
  pub each : (job : ℕ) → IsPlace n list job → IsNext n list job (slice_index links job)
  pub size : length links ≡ n + 1
