-- The least lag of some jobs, and of the jobs that a child leaves.
use Rattle.std.proofs.Common.{◌≡◌, ℕ, ◌+◌, ◌-◌, ◌*◌, ◌<◌, ◌≤◌, List, [], ◌∷◌, ◌++◌, length, map, slice_index, ◌∙◌}
use Rattle.std.proofs.Common.{arith}
use Rattle.flow_limits.specs.Limits.{most_machines, greatest_time}
use Rattle.flow_shop.specs.Shop.{Shop, IsWithinLimits}
use Rattle.flow_shop.specs.Least.{least}
use Rattle.flow_shop.specs.TwoLeast.{IsLeastWithout, least_below, least_of_none}
use Rattle.flow_shop.specs.Sequences.{jobs_left}
use Rattle.flow_shop.proofs.TwoLeastSteps.{least-below-cap}
use Rattle.flow_shop.proofs.Taken.{left-count}
use Rattle.flow_shop.specs.declared.row.Row.{Row}
use Rattle.flow_shop.specs.TwoLeast.{time_to}
use Rattle.flow_search.specs.internal.Lags.{IsLagged}
use Rattle.flow_shop.specs.declared.least_pairs.LeastPairs.{LeastPairs}
use Rattle.flow_search.proofs.Children.{child-least}
use Rattle.flow_shop.proofs.Times.{times-small}

-- the least lag of some jobs
pub least-lag : (shop : Shop) (machine place : ℕ) (jobs : List ℕ) → IsWithinLimits shop → machine ≤ shop.machines →
    0 < length jobs →
    least_below least_of_none (map (time_to shop machine place) jobs) ≡ least (map (time_to shop machine place) jobs)
least-lag shop machine place jobs limits to some =
    (least-below-cap least_of_none (most_machines * greatest_time) (time_to shop machine place) jobs some
    (λ job. times-small shop job (place + 1) (machine - 1) (omega arith) (omega (arith, to)) limits) (omega arith)).0

-- the least lag, from one machine to another, of the jobs that a child leaves
pub child-lag : (shop : Shop) (node : List ℕ) (left job machine place own value : ℕ) (row : Row) (lows : LeastPairs) →
    IsLagged shop node left job machine row lows → place < machine - 1 →
    own ≡ time_to shop machine place job →
    IsLeastWithout own (slice_index lows.least place) (slice_index lows.second place) value →
    (value ≡ least (map (time_to shop machine place) (jobs_left shop.jobs (node ++ job ∷ []))))
    × (value ≤ most_machines * greatest_time)
child-lag shop node left job machine place own value row lows is low own_is picked =
    let f : ℕ → ℕ = time_to shop machine place in
    let two = is.lags_are place low in
    let count = left-count shop.jobs node job is.kid.from is.kid.to is.kid.fresh in
    let value_is = child-least f shop.jobs node job own (slice_index lows.least place)
    (slice_index lows.second place) value is.kid
    own_is two.0 two.1 picked in
    let cap = least-below-cap least_of_none (most_machines * greatest_time) f (jobs_left shop.jobs (node ++ job ∷ []))
    (omega (arith, is.some, count))
    (λ j. times-small shop j (place + 1) (machine - 1) (omega arith) (omega (arith, is.to)) is.limits) (omega arith) in
    (value_is ∙ cap.0, omega (arith, value_is, cap.0, cap.1))
