-- The two least lags of some jobs to each machine. A job's lag from a machine to another is its time on the machines
-- from there to the one before the other.
use Rattle.std.specs.Prelude.{ℕ, suc, ◌≡◌, ◌-◌, ◌≤◌, List, length, slice_index_or}
use Rattle.flow_shop.specs.Shop.{Shop, IsWithinLimits}
use Rattle.flow_shop.specs.Sequences.{jobs_left}
use Rattle.flow_shop.specs.Rows.{IsRow}
use Rattle.flow_shop.specs.declared.row.Row.{Row}
use Rattle.flow_shop.specs.TwoLeast.{AreTwoLeast, time_to}
use Rattle.flow_search.specs.internal.Frames.{IsChild}
use Rattle.flow_shop.specs.declared.least_pairs.LeastPairs.{LeastPairs}

-- for each machine the two least lags of some jobs to it, from each earlier one
abbrev pub AreLeastLags : Shop → List ℕ → List LeastPairs → Type 0
AreLeastLags shop jobs lags =
    (machine : ℕ) (other : LeastPairs) → 1 ≤ machine → machine ≤ shop.machines →
    AreTwoLeast (time_to shop machine) (machine - 1) jobs (slice_index_or lags (machine - 1) other)

-- a job that a node leaves with others, its row, and the two least lags of the jobs left to a machine
pub record IsLagged (shop : Shop) (node : List ℕ) (left job machine : ℕ) (row : Row) (lags : LeastPairs) : Type 0 where
  pub limits : IsWithinLimits shop
  pub to : machine ≤ shop.machines
  pub some : length (jobs_left shop.jobs node) ≡ suc (suc left)
  pub kid : IsChild shop.jobs node job
  pub row_is : IsRow shop job row
  pub lags_are : AreTwoLeast (time_to shop machine) (machine - 1) (jobs_left shop.jobs node) lags
