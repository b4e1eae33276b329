-- The rest of some jobs: the loads of the machines, and the lags to each of them.
use Rattle.std.specs.Prelude.{ℕ, ◌≡◌, ◌-◌, ◌<◌, ◌≤◌, List, [], slice_index, slice_index_or}
use Rattle.flow_shop.specs.Shop.{Shop}
use Rattle.flow_bound.specs.Loads.{least_between, AreLoadsOf}
use Rattle.flow_bound.specs.declared.rest.Rest.{Rest}

-- the lags of some jobs to a machine: for each machine before it, the least time that a job needs from there to it
abbrev pub AreLags : Shop → List ℕ → ℕ → List ℕ → Type 0
AreLags shop jobs machine lags =
    (from : ℕ) → 1 ≤ from → from < machine → slice_index lags (from - 1) ≡ least_between shop jobs from (machine - 1)

-- the rest of some jobs has their loads, and for each machine their lags to it
pub record IsRestOf (shop : Shop) (jobs : List ℕ) (rest : Rest) : Type 0 where
  pub loads_are : AreLoadsOf shop jobs rest.loads
  pub lags_are : (machine : ℕ) → 1 ≤ machine → machine ≤ shop.machines →
      AreLags shop jobs machine (slice_index_or rest.lags (machine - 1) [])
