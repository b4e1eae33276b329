-- The path tails of lists go by a recurrence.
use Rattle.std.proofs.Common.{◌≡◌, ℕ, zero, suc, ◌+◌, ◌-◌, ◌<◌, ◌≤◌, max, List, [], ◌∷◌, length, replicate, refl, ap}
use Rattle.std.proofs.Common.{inl, inr, arith}
use Rattle.std.proofs.lemmas.Bool.{cases_lt}
use Rattle.std.proofs.lemmas.List.{length-replicate}
use Rattle.flow_shop.specs.Shop.{Shop, time, time_between}
use Rattle.flow_shop.specs.Paths.{IsPath, weight}
use Rattle.flow_shop.specs.Ends.{path_tail}
use Rattle.flow_shop.proofs.Recurrence.{time_between-none, time_between-first, path-up, path-le-greatest}
use Rattle.flow_shop.proofs.Recurrence.{greatest-path-le}

-- no path is heavier than the tail
pub weight-le-tail : (shop : Shop) (jobs machines : List ℕ) (machine : ℕ) → length machines ≡ length jobs →
    IsPath machine machines shop.machines → weight shop jobs machine machines ≤ path_tail shop jobs machine
weight-le-tail shop jobs machines machine e path =
    path-le-greatest (weight shop jobs machine) (length jobs) machines machine shop.machines e path

-- and the tail is below each bound on the paths
pub tail-below : (shop : Shop) (jobs : List ℕ) (machine bound : ℕ) →
    ((machines : List ℕ) → length machines ≡ length jobs → IsPath machine machines shop.machines →
    weight shop jobs machine machines ≤ bound) → path_tail shop jobs machine ≤ bound
tail-below shop jobs machine bound each =
    greatest-path-le (weight shop jobs machine) (length jobs) machine shop.machines bound each

-- the empty list has no tail
pub tail-none : (shop : Shop) (machine : ℕ) → path_tail shop [] machine ≡ 0
tail-none shop machine = let none = tail-below shop [] machine 0 (λ machines e path. omega arith) in omega (arith, none)

-- nor has any list behind the last machine
pub tail-past : (shop : Shop) (job : ℕ) (jobs : List ℕ) (machine : ℕ) → shop.machines < machine →
    path_tail shop (job ∷ jobs) machine ≡ 0
tail-past shop job jobs machine past =
    let none = tail-below shop (job ∷ jobs) machine 0
    (λ machines e path. absurd (omega (arith, past, path-up machines machine shop.machines path))) in
    omega (arith, none)

-- a path that stays on a machine
stays : (n machine : ℕ) → IsPath machine (replicate n machine) machine
stays zero machine = refl
stays (suc n) machine = (omega arith, stays n machine)

-- a tail has the time of its first job
pub time-le-tail : (shop : Shop) (job : ℕ) (jobs : List ℕ) (machine : ℕ) → machine ≤ shop.machines →
    time shop job machine ≤ path_tail shop (job ∷ jobs) machine
time-le-tail shop job jobs machine high =
    omega (
      arith,
      weight-le-tail shop (job ∷ jobs) (shop.machines ∷ replicate (length jobs) shop.machines) machine
          (ap suc (length-replicate (length jobs) shop.machines)) (high, stays (length jobs) shop.machines),
      time_between-first shop job machine shop.machines high,
    )

module _ (shop : Shop) (job : ℕ) (jobs : List ℕ) (machine : ℕ) (high : machine ≤ shop.machines) where
  -- the first job leaves the path at its first machine, or later
  below-step : (machines : List ℕ) → length machines ≡ suc (length jobs) → IsPath machine machines shop.machines →
      weight shop (job ∷ jobs) machine machines ≤ max (path_tail shop jobs machine) (path_tail shop (job ∷ jobs) (machine + 1))
      + time shop job machine
  below-step [] e path = absurd (omega arith)
  below-step (b ∷ bs) e path =
      let first = time_between-first shop job machine b path.0 in
      elim (cases_lt machine b) [
        | inl later ↦ omega (
          arith,
          first,
          weight-le-tail shop (job ∷ jobs) (b ∷ bs) (machine
              + 1) e (omega arith, path.1),
        )
        | inr not_later ↦
            let here : machine ≡ b = omega (arith, path.0) in
            let same : path_tail shop jobs machine ≡ path_tail shop jobs b = ap (path_tail shop jobs) here in
            let none : time_between shop job (machine + 1) b ≡ 0 =
            time_between-none shop job (machine + 1) b (omega arith) in
            omega (arith, first, none, same, weight-le-tail shop jobs bs b (omega arith) path.1)
      ]

  above-here : path_tail shop jobs machine ≤ path_tail shop (job ∷ jobs) machine - time shop job machine
  above-here = tail-below shop jobs machine (path_tail shop (job ∷ jobs) machine - time shop job machine)
      (λ machines e path. omega (
        arith,
        weight-le-tail shop (job ∷ jobs) (machine ∷ machines) machine (ap suc e) (omega arith, path),
        time_between-first shop job machine machine (omega arith),
        time_between-none shop job (machine + 1) machine (omega arith),
      ))

  above-later : path_tail shop (job ∷ jobs) (machine + 1) ≤ path_tail shop (job ∷ jobs) machine - time shop job machine
  above-later = tail-below shop (job ∷ jobs) (machine + 1) (path_tail shop (job ∷ jobs) machine - time shop job machine) later
    where
      later : (machines : List ℕ) → length machines ≡ suc (length jobs) → IsPath (machine + 1) machines shop.machines →
          weight shop (job ∷ jobs) (machine + 1) machines ≤ path_tail shop (job ∷ jobs) machine - time shop job machine
      later [] e path = absurd (omega arith)
      later (b ∷ bs) e path =
          let low : machine ≤ b = omega (arith, path.0) in
          omega (
            arith,
            weight-le-tail shop (job ∷ jobs) (b
                ∷ bs) machine e (low, path.1),
            time_between-first shop job machine b low,
          )

  -- a tail from the tail of the jobs behind, and from that of the next machine
  pub tail-step : path_tail shop (job ∷ jobs) machine ≡ max (path_tail shop jobs machine) (path_tail shop (job ∷ jobs) (machine + 1))
      + time shop job machine
  tail-step =
      let below = tail-below shop (job ∷ jobs) machine (max (path_tail shop jobs machine) (path_tail shop (job ∷ jobs) (machine + 1))
      + time shop job machine) below-step in
      omega (arith, below, above-here, above-later, time-le-tail shop job jobs machine high)
