-- Lags of jobs, and the release of a machine.
use Rattle.std.proofs.Common.{◌≡◌, cond, nat_eq, nat_le, Bool, true, inl, inr, ℕ, suc, ◌+◌, ◌-◌, ◌*◌, ◌<◌}
use Rattle.std.proofs.Common.{◌≤◌, List, [], ◌∷◌, ◌++◌, length, map, false}
use Rattle.std.proofs.Common.{slice_index, ap, ap₂, sym, ◌∙◌, arith}
use Rattle.std.proofs.lemmas.Bool.{cases_Bool, le-leb, lt-leb, leb-true, leb-false}
use Rattle.flow_shop.specs.Limits.{most_machines, greatest_time}
use Rattle.flow_shop.specs.Shop.{Shop, IsWithinLimits, numbers, time_between}
use Rattle.flow_shop.specs.Least.{greatest, least}
use Rattle.flow_shop.specs.Sequences.{has, jobs_left}
use Rattle.flow_shop.specs.Bound.{bound_at, released_bound_at, bound_of, front_of, release}
use Rattle.flow_shop.specs.TwoLeast.{least_below, second_below, least_of_none, IsLeastWithout}
use Rattle.flow_shop.proofs.Admissible.{front_of-is, front-le-release, released_bound_is_stronger}
use Rattle.flow_shop.proofs.Fronts.{free_at, child-completion}
use Rattle.flow_shop.proofs.Ranges.{greatest-same}
use Rattle.flow_shop.proofs.Recurrence.{after}
use Rattle.flow_shop.proofs.Taken.{left-count}
use Rattle.flow_shop.proofs.Times.{times-small}
use Rattle.flow_shop.proofs.TwoLeastSteps.{least-below-cap}
use Rattle.flow_check.specs.internal.Lags.{AreTwoLeastLagsTo}
use Rattle.flow_check.specs.internal.Nodes.{IsListNode}
use Rattle.flow_check.specs.declared.node.ListNode.{ListNode}
use Rattle.flow_shop.specs.declared.least_pairs.LeastPairs.{LeastPairs}
use Rattle.flow_check.proofs.NodeSteps.{without-left}

-- the lags of some jobs from a machine to another
abbrev pub lags : Shop → ℕ → ℕ → List ℕ → List ℕ
lags shop from machine jobs = map (λ job. time_between shop job from (machine - 1)) jobs

-- the two least lags from one of the machines
pub lags-from : (shop : Shop) (list : List ℕ) (from machine : ℕ) (two : LeastPairs) →
    AreTwoLeastLagsTo shop list machine two → 1 ≤ from → from ≤ machine →
    (slice_index two.least (from - 1) ≡ least_below least_of_none (lags shop from machine (jobs_left shop.jobs list)))
    × (slice_index two.second (from - 1)
    ≡ second_below least_of_none least_of_none (lags shop from machine (jobs_left shop.jobs list)))
lags-from shop list from machine two are low up =
    let next : from - 1 + 1 ≡ from = omega (arith, low) in
    let here = are (from - 1) (omega (arith, low, up)) in (
      here.0 ∙ ap (λ k. least_below least_of_none (lags shop k machine (jobs_left shop.jobs list))) next,
      here.1 ∙ ap (λ k. second_below least_of_none least_of_none (lags shop k machine (jobs_left shop.jobs list))) next,
    )

-- where jobs are left, the number that stands for none takes no part
pub least-lags : (shop : Shop) (from machine : ℕ) (jobs : List ℕ) → IsWithinLimits shop → 1 ≤ from →
    from ≤ machine → machine ≤ shop.machines → 0 < length jobs →
    least_below least_of_none (lags shop from machine jobs) ≡ least (lags shop from machine jobs)
least-lags shop from machine jobs limits low up high some =
    (least-below-cap least_of_none (most_machines * greatest_time) (λ job. time_between shop job from
    (machine - 1)) jobs some
    (λ job. times-small shop job from (machine - 1) low (omega (arith, high)) limits) (omega arith)).0

-- the release for the jobs left of a list
pub own-release : (shop : Shop) (list : List ℕ) (node : ListNode) (left machine : ℕ) (two : LeastPairs) →
    IsWithinLimits shop →
    IsListNode shop list node (suc left) → machine ≤ shop.machines → AreTwoLeastLagsTo shop list machine two →
    greatest (map (λ from. slice_index node.front (from - 1) + slice_index two.least (from - 1)) (numbers 1 machine))
    ≡ release shop (front_of shop list) (jobs_left shop.jobs list) machine
own-release shop list node left machine two limits is high are =
    greatest-same (λ from. slice_index node.front (from - 1) + slice_index two.least (from - 1))
    (λ from. slice_index (front_of shop list) (from - 1) + least (lags shop from machine (jobs_left shop.jobs list)))
    machine (λ from low up.
    let within : from ≤ shop.machines = omega (arith, up, high) in
    let front = is.times from low within ∙ sym (front_of-is shop list from low within) in
    let lag = (lags-from shop list from machine two are low up).0
    ∙ least-lags shop from machine (jobs_left shop.jobs list) limits low up high (omega (arith, is.some)) in
    ap₂ (λ a b. a + b) front lag)

-- the greatest that is found for a list is the release, which is at least the front
pub own-late : (shop : Shop) (list : List ℕ) (node : ListNode) (left machine : ℕ) (two : LeastPairs) (late end : ℕ) →
    IsWithinLimits shop → IsListNode shop list node (suc left) → 1 ≤ machine → machine ≤ shop.machines →
    AreTwoLeastLagsTo shop list machine two → late ≡ greatest (map (λ from. slice_index node.front (from - 1)
    + slice_index two.least (from - 1)) (numbers 1 end)) → end ≡ machine →
    (late ≡ release shop (front_of shop list) (jobs_left shop.jobs list) machine)
    × (slice_index node.front (machine - 1) ≡ slice_index (front_of shop list) (machine - 1))
    × (slice_index (front_of shop list) (machine - 1) ≤ late)
own-late shop list node left machine two late end limits is low high are found whole =
    let value = found ∙ ap (λ n. greatest (map (λ from. slice_index node.front (from - 1)
    + slice_index two.least (from - 1)) (numbers 1 n))) whole ∙ own-release shop list node left machine two limits is
    high are in
    let least = front-le-release shop (front_of shop list) (jobs_left shop.jobs list) machine low in
    (value, is.times machine low high ∙ sym (front_of-is shop list machine low high), omega (arith, value, least))

-- the release for the jobs left of a list's child
pub child-release : (shop : Shop) (list : List ℕ) (node : ListNode) (left job machine : ℕ) →
    IsListNode shop list node left → machine ≤ shop.machines →
    greatest (map (λ from. after shop (free_at node.front) job from
    + least (lags shop from machine (jobs_left shop.jobs (list ++ job ∷ [])))) (numbers 1 machine))
    ≡ release shop (front_of shop (list ++ job ∷ [])) (jobs_left shop.jobs (list ++ job ∷ [])) machine
child-release shop list node left job machine is high =
    let jobs : List ℕ = jobs_left shop.jobs (list ++ job ∷ []) in
    greatest-same (λ from. after shop (free_at node.front) job from + least (lags shop from machine jobs))
    (λ from. slice_index (front_of shop (list ++ job ∷ [])) (from - 1) + least (lags shop from machine jobs))
    machine (λ from low up.
    let within : from ≤ shop.machines = omega (arith, up, high) in
    ap (λ a. a + least (lags shop from machine jobs))
    (child-completion shop list node.front job from within is.times
    ∙ sym (front_of-is shop (list ++ job ∷ []) from low within)))

-- the least lag of the jobs left of a list's child
pub child-lag : (shop : Shop) (list : List ℕ) (node : ListNode) (left job from machine y p q m : ℕ)
    (two : LeastPairs) → IsWithinLimits shop → IsListNode shop list node (suc (suc left)) → 1 ≤ job → job ≤ shop.jobs →
    has list job ≡ false → AreTwoLeastLagsTo shop list machine two → 1 ≤ from → from ≤ machine →
    machine ≤ shop.machines → y ≡ time_between shop job from (machine - 1) → p ≡ slice_index two.least (from - 1) →
    q ≡ slice_index two.second (from - 1) → IsLeastWithout y p q m →
    m ≡ least (lags shop from machine (jobs_left shop.jobs (list ++ job ∷ [])))
child-lag shop list node left job from machine y p q m two limits is first last fresh are low up high lag is_p is_q
    picked =
    let here = lags-from shop list from machine two are low up in
    let count = left-count shop.jobs list job first last fresh in
    without-left (λ j. time_between shop j from (machine - 1)) shop.jobs list job y p q m first last fresh
    (is_p ∙ here.0) (is_q ∙ here.1) lag picked
    ∙ least-lags shop from machine (jobs_left shop.jobs (list ++ job ∷ [])) limits low up high (omega
    (arith, is.some, count))

-- what the release adds to the machine bound
pub release-gains : (shop : Shop) (list : List ℕ) (machine gain version : ℕ) → nat_eq version 2 ≡ true →
    slice_index (front_of shop list) (machine - 1) + gain
    ≡ release shop (front_of shop list) (jobs_left shop.jobs list) machine →
    bound_at shop list machine + gain ≡ bound_of version shop list machine
release-gains shop list machine gain version is gains =
    let same = ap (λ b. cond b released_bound_at bound_at shop list machine) is in
    omega (arith, gains, same)

-- the other version has the machine bound
pub plain-gains : (shop : Shop) (list : List ℕ) (machine version : ℕ) → nat_eq version 2 ≡ false →
    bound_at shop list machine + 0 ≡ bound_of version shop list machine
plain-gains shop list machine version is =
    let same = ap (λ b. cond b released_bound_at bound_at shop list machine) is in
    omega (arith, same)

-- the bound of a version is at least the machine bound
pub version-stronger : (shop : Shop) (list : List ℕ) (machine version : ℕ) → 1 ≤ machine →
    bound_at shop list machine ≤ bound_of version shop list machine
version-stronger shop list machine version low = one (nat_eq version 2)
  where
    one : (b : Bool) → bound_at shop list machine ≤ cond b released_bound_at bound_at shop list machine
    one true = released_bound_is_stronger shop list machine low
    one false = omega arith

-- what is missing up to a value is gained, or the value is not reached
pub gain-reaches : (value plain gain bound : ℕ) → plain < value → plain + gain ≡ bound →
    nat_le (value - plain) gain ≡ nat_le value bound
gain-reaches value plain gain bound short is = elim (cases_Bool (nat_le (value - plain) gain)) [
  | inl high ↦ high ∙ sym (le-leb value bound (omega (arith, leb-true (value - plain) gain high, short, is)))
  | inr low ↦ low ∙ sym (lt-leb value bound (omega (arith, leb-false (value - plain) gain low, short, is)))
]
