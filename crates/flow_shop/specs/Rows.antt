-- The times and tails of the jobs, a row for each.
use Rattle.std.specs.Prelude.{ℕ, ◌≡◌, ◌+◌, ◌-◌, ◌≤◌, List, length, slice_index, slice_index_or}
use Rattle.flow_shop.specs.Shop.{Shop, IsWithinLimits, time, time_between}
use Rattle.flow_shop.specs.declared.row.Row.{Row}

-- a row has a job's time on each machine, and its tail behind it: its time on all later machines
abbrev pub IsRow : Shop → ℕ → Row → Type 0
IsRow shop job row =
    (machine : ℕ) → 1 ≤ machine → machine ≤ shop.machines →
    (slice_index row.times (machine - 1) ≡ time shop job machine)
    × (slice_index row.tails (machine - 1) ≡ time_between shop job (machine + 1) shop.machines)

-- a row for each job of an instance within the limits, that of job 1 first
pub record AreRows (shop : Shop) (rows : List Row) : Type 0 where
  pub limits : IsWithinLimits shop
  pub count : length rows ≡ shop.jobs
  pub each : (job : ℕ) (other : Row) → 1 ≤ job → job ≤ shop.jobs → IsRow shop job (slice_index_or rows (job - 1) other)
