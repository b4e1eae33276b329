-- The time of a job on a run of machines: one machine more, in two parts, and how great it is.
use Rattle.std.proofs.Common.{◌≡◌, ℕ, zero, suc, ◌+◌, ◌-◌, ◌*◌, ◌≤◌, slice_index, ap, ◌∙◌, inl, inr, arith}
use Rattle.std.specs.List.{range_with_len, sum_by}
use Rattle.std.proofs.lemmas.Bool.{cases_lt}
use Rattle.std.proofs.lemmas.List.Sums.{sum_by-append}
use Rattle.flow_limits.specs.Limits.{most_machines, greatest_time}
use Rattle.flow_shop.specs.Shop.{Shop, time, time_between, IsWithinLimits}
use Rattle.flow_shop.specs.Rows.{IsRow}
use Rattle.flow_shop.specs.declared.row.Row.{Row}
use Rattle.flow_shop.proofs.Fronts.{time-small}
use Rattle.flow_shop.proofs.Recurrence.{time_between-first, time_between-more, time_between-none}
use Rattle.flow_shop.proofs.Taken.{range-split}

-- the times up to a machine fit
pub time_between-small : (shop : Shop) (job a b : ℕ) → 1 ≤ a → IsWithinLimits shop →
    time_between shop job a b ≤ b * greatest_time
time_between-small shop job a zero low limits = omega (arith, time_between-none shop job a 0 (omega arith))
time_between-small shop job a (suc b) low limits =
    elim (cases_lt (suc b) a) [
      | inl above ↦ omega (arith, time_between-none shop job a (suc b) above)
      | inr here ↦ omega (
        arith,
        time_between-more shop job a b here,
        time_between-small shop job a b low limits,
        time-small shop job (suc b) limits,
      )
    ]

pub times-small : (shop : Shop) (job first last : ℕ) → 1 ≤ first → last ≤ shop.machines → IsWithinLimits shop →
    time_between shop job first last ≤ most_machines * greatest_time
times-small shop job first last low within limits =
    let most : shop.machines ≤ most_machines = limits.machines in
    omega (arith, time_between-small shop job first last low limits, most)

-- one machine more
pub time_between-step : (shop : Shop) (job a k : ℕ) → 1 ≤ a → a ≤ k →
    time_between shop job a (k + 1 - 1) ≡ time_between shop job a (k - 1) + time shop job k
time_between-step shop job a zero from low = absurd (omega arith)
time_between-step shop job a (suc n) from low =
    let e : suc n + 1 - 1 ≡ suc n = omega arith in
    let d : n ≡ suc n - 1 = omega arith in
    ap (time_between shop job a) e ∙ time_between-more shop job a n low
    ∙ ap (λ m. time_between shop job a m + time shop job (suc n)) d

-- parted behind one of the machines
pub time_between-split : (shop : Shop) (job from here last : ℕ) → from ≤ here + 1 → here ≤ last →
    time_between shop job from last ≡ time_between shop job from here + time_between shop job (here + 1) last
time_between-split shop job from here last low high =
    let len : last + 1 - from ≡ (here + 1 - from) + (last - here) = omega arith in
    let next : from + (here + 1 - from) ≡ here + 1 = omega arith in
    let rest : last - here ≡ last + 1 - (here + 1) = omega arith in
    ap (λ n. sum_by (time shop job) (range_with_len from n)) len
    ∙ ap (sum_by (time shop job)) (range-split from (here + 1 - from) (last - here))
    ∙ sum_by-append (time shop job) (range_with_len from (here + 1 - from))
    (range_with_len (from + (here + 1 - from)) (last - here))
    ∙ ap (λ k. time_between shop job from here + sum_by (time shop job) (range_with_len k (last - here))) next
    ∙ ap (λ n. time_between shop job from here + sum_by (time shop job) (range_with_len (here + 1) n)) rest

-- from a machine to the last one, from the job's row
pub row-from : (shop : Shop) (job machine : ℕ) (row : Row) → IsRow shop job row → 1 ≤ machine →
    machine ≤ shop.machines →
    slice_index row.times (machine - 1) + slice_index row.tails (machine - 1)
    ≡ time_between shop job machine shop.machines
row-from shop job machine row is from to =
    let here = is machine from to in
    omega (arith, here.0, here.1, time_between-first shop job machine shop.machines to)

pub row-small : (shop : Shop) (job machine : ℕ) (row : Row) → IsWithinLimits shop → IsRow shop job row → 1 ≤ machine →
    machine ≤ shop.machines →
    slice_index row.times (machine - 1) + slice_index row.tails (machine - 1) ≤ most_machines * greatest_time
row-small shop job machine row limits is from to =
    omega (
      arith,
      row-from shop job machine row is from to,
      times-small shop job machine shop.machines from (omega arith) limits,
    )

-- a lag, from the job's row
pub row-lag : (shop : Shop) (job from to : ℕ) (row : Row) → IsRow shop job row → 1 ≤ from → from ≤ to →
    to ≤ shop.machines →
    slice_index row.times (from - 1) + slice_index row.tails (from - 1)
    ≡ time_between shop job from (to - 1) + (slice_index row.times (to - 1) + slice_index row.tails (to - 1))
row-lag shop job from to row is low up high =
    let next : to - 1 + 1 ≡ to = omega (arith, low, up) in
    omega (
      arith,
      row-from shop job from row is low (omega (arith, up, high)),
      row-from shop job to row is (omega (arith, low, up)) high,
      time_between-split shop job from (to - 1) shop.machines (omega (arith, up, next)) (omega (arith, high)),
      ap (λ k. time_between shop job k shop.machines) next,
    )
