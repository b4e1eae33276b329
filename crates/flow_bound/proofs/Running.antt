-- Running sums of times, and the least, the greatest and the sum over the first numbers.
use Rattle.std.proofs.Common.{◌≡◌, ◌≢◌, ℕ, zero, suc, ◌+◌, ◌-◌, ◌*◌, ◌<◌, ◌≤◌, min, List, [], ◌∷◌, length}
use Rattle.std.proofs.Common.{length-append, map, slice_index, set, replicate, ap, sym, ◌∙◌, arith}
use Rattle.std.specs.List.{sum_by}
use Rattle.std.proofs.lemmas.List.{get_or-set_other}
use Rattle.std.proofs.lemmas.List.Sums.{sum_by_push}
use Rattle.flow_limits.specs.Limits.{most_machines, greatest_time}
use Rattle.flow_shop.specs.Shop.{Shop, numbers, time, time_between, IsWithinLimits}
use Rattle.flow_shop.specs.Least.{least}
use Rattle.flow_shop.proofs.Extremes.{map-map-append}
use Rattle.flow_shop.proofs.Fronts.{zeros}
use Rattle.flow_shop.proofs.JobsLeft.{numbers-more}
use Rattle.flow_shop.proofs.Ranges.{numbers-step}
use Rattle.flow_shop.proofs.Recurrence.{time_between-more, time_between-none}
use Rattle.flow_shop.proofs.Times.{times-small}
use Rattle.flow_shop.specs.TwoLeast.{least_below}
use Rattle.flow_shop.proofs.TwoLeastSteps.{least-push, least-below-cap}

-- where a value is written for one number, those of the numbers behind it stay
pub others-stay : (f : ℕ → ℕ) (xs : List ℕ) (k value last : ℕ) → 1 ≤ k →
    ((j : ℕ) → k ≤ j → j ≤ last → slice_index xs (j - 1) ≡ f j) → (j : ℕ) → k + 1 ≤ j → j ≤ last →
    slice_index (set xs (k - 1) value) (j - 1) ≡ f j
others-stay f xs k value last from others j low high =
    let other : j - 1 ≢ k - 1 = omega arith in rw get_or-set_other (others j (omega arith) high)

pub sum-step : (f : ℕ → ℕ) (k : ℕ) → 1 ≤ k → sum_by f (numbers 1 (k + 1 - 1)) ≡ sum_by f (numbers 1 (k - 1)) + f k
sum-step f k low = ap (sum_by f) (numbers-step k low) ∙ sum_by_push f (numbers 1 (k - 1)) k

pub least-step : (cap : ℕ) (f : ℕ → ℕ) (k : ℕ) → 1 ≤ k → least_below cap (map f (numbers 1 (k + 1 - 1)))
    ≡ min (least_below cap (map f (numbers 1 (k - 1)))) (f k)
least-step cap f k low =
    ap (λ xs. least_below cap (map f xs)) (numbers-step k low)
    ∙ ap (least_below cap) (map-map-append f (numbers 1 (k - 1)) (k ∷ []))
    ∙ least-push cap (map f (numbers 1 (k - 1))) (f k)

-- the time on one more machine
pub head-step : (shop : Shop) (job machine : ℕ) → 1 ≤ machine →
    time_between shop job 1 machine ≡ time_between shop job 1 (machine - 1) + time shop job machine
head-step shop job zero low = absurd (omega arith)
head-step shop job (suc k) low =
    let e : k ≡ suc k - 1 = omega arith in
    time_between-more shop job 1 k (omega arith) ∙ ap (λ n. time_between shop job 1 n + time shop job (suc k)) e

pub head-small : (shop : Shop) (job machine : ℕ) → IsWithinLimits shop → machine ≤ shop.machines →
    time_between shop job 1 machine ≤ most_machines * greatest_time
head-small shop job machine limits within = times-small shop job 1 machine (omega arith) within limits

pub tail-small : (shop : Shop) (job machine : ℕ) → IsWithinLimits shop →
    time_between shop job (machine + 1) shop.machines ≤ most_machines * greatest_time
tail-small shop job machine limits = times-small shop job (machine + 1) shop.machines (omega arith) (omega arith) limits

-- before the first machine
pub times-none : (shop : Shop) (n job first : ℕ) → 1 ≤ first →
    slice_index (replicate n 0) (job - 1) ≡ time_between shop job first (first - 1)
times-none shop n job first low = zeros n (job - 1) ∙ sym (time_between-none shop job first (first - 1) (omega arith))

-- the least over all jobs, and its cap
pub least-of-jobs : (cap bound : ℕ) (f : ℕ → ℕ) (n job : ℕ) → ((j : ℕ) → f j ≤ bound) → bound ≤ cap → 1 ≤ n →
    job ≡ n + 1 →
    (least_below cap (map f (numbers 1 (job - 1))) ≡ least (map f (numbers 1 n))) × (least (map f (numbers 1 n)) ≤
    bound)
least-of-jobs cap bound f zero job small below some end = absurd (omega arith)
least-of-jobs cap bound f (suc n) job small below some end =
    let e : job - 1 ≡ suc n = omega arith in
    let long : 0 < length (numbers 1 (suc n)) =
    omega (arith, ap length (numbers-more n), length-append (numbers 1 n) (suc n ∷ [])) in
    let whole = least-below-cap cap bound f (numbers 1 (suc n)) long small below in
    (ap (λ m. least_below cap (map f (numbers 1 m))) e ∙ whole.0, whole.1)
