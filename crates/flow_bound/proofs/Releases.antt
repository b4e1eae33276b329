-- The release of a machine, machine by machine.
use Rattle.std.proofs.Common.{◌≡◌, ℕ, ◌+◌, ◌-◌, ◌≤◌, List, [], ◌∷◌, map, slice_index, refl, arith}
use Rattle.flow_shop.specs.Shop.{Shop, time_between}
use Rattle.flow_shop.specs.Least.{least}
use Rattle.flow_shop.proofs.Recurrence.{time_between-none}
use Rattle.flow_bound.specs.Loads.{least_between}

-- when a machine is free, and then the least time that a job needs from there to another one
abbrev pub start_from : Shop → List ℕ → List ℕ → ℕ → ℕ → ℕ
start_from shop front jobs machine from = slice_index front (from - 1) + least_between shop jobs from (machine - 1)

least-none : (f : ℕ → ℕ) (jobs : List ℕ) → ((job : ℕ) → f job ≡ 0) → least (map f jobs) ≡ 0
least-none f [] none = refl
least-none f (j ∷ []) none = none j
least-none f (j ∷ i ∷ is) none = omega (arith, none j, least-none f (i ∷ is) none)

-- from the machine itself no job needs any
pub start-here : (shop : Shop) (front jobs : List ℕ) (machine : ℕ) → 1 ≤ machine →
    start_from shop front jobs machine machine ≡ slice_index front (machine - 1)
start-here shop front jobs machine low =
    let none = least-none (λ job. time_between shop job machine (machine - 1)) jobs (λ job.
    time_between-none shop job machine (machine - 1) (omega arith)) in
    omega (arith, none)
