-- One turn of the loop over the jobs: the least tail so far.
use Rattle.std.proofs.Common.{◌≡◌, ℕ, zero, suc, ◌+◌, ◌-◌, ◌<◌, ◌≤◌, min, Bool, true, false, cond, List, [], ◌∷◌}
use Rattle.std.proofs.Common.{◌++◌, length, map, subst, ap, ◌∙◌, arith}
use Rattle.std.specs.List.{filter}
use Rattle.std.proofs.lemmas.List.{map_push, append-nil}
use Rattle.flow_shop.specs.Shop.{Shop, numbers}
use Rattle.flow_shop.specs.TwoLeast.{least_below}
use Rattle.flow_shop.proofs.JobsLeft.{sum_by-jobs_left, sum_by-ones, filter-more}
use Rattle.flow_shop.proofs.TwoLeastSteps.{least-push}
use Rattle.flow_shop.specs.Paths.{span}
use Rattle.flow_shop.specs.Sequences.{jobs_left, IsSequence, Extends}

least_below_kept : (cap : ℕ) (f : ℕ → ℕ) (xs : List ℕ) (k : ℕ) (b : Bool) →
    least_below cap (map f (xs ++ cond b (k ∷ []) [])) ≡ cond b (min (least_below cap (map f xs)) (f k)) (least_below
    cap (map f xs))
least_below_kept cap f xs k true = ap (least_below cap) (map_push f xs k) ∙ least-push cap (map f xs) (f k)
least_below_kept cap f xs k false = ap (λ ys. least_below cap (map f ys)) (append-nil xs)

pub least_below-step : (cap : ℕ) (f : ℕ → ℕ) (p : ℕ → Bool) (k : ℕ) → 1 ≤ k →
    least_below cap (map f (filter p (numbers 1 (k + 1 - 1))))
    ≡ cond (p k) (min (least_below cap (map f (filter p (numbers 1 (k - 1))))) (f k)) (least_below cap (map f (filter
    p (numbers 1
    (k - 1)))))
least_below-step cap f p zero low = absurd (omega arith)
least_below-step cap f p (suc n) low =
    let a : suc n + 1 - 1 ≡ suc n = omega arith in
    let b : n ≡ suc n - 1 = omega arith in
    ap (λ m. least_below cap (map f (filter p (numbers 1 m)))) a
    ∙ ap (λ xs. least_below cap (map f xs)) (filter-more p n)
    ∙ least_below_kept cap f (filter p (numbers 1 n)) (suc n) (p (suc n))
    ∙ ap (λ m. cond (p (suc n)) (min (least_below cap (map f (filter p (numbers 1 m)))) (f (suc n))) (least_below cap
    (map f
    (filter p (numbers 1 m))))) b

-- what equals a bound of the jobs that a list leaves is admissible, where that bound is
pub left-admissible : (shop : Shop) (scheduled sequence set : List ℕ) (bound_of : List ℕ → ℕ) (bound : ℕ) →
    ((rest : List ℕ) → IsSequence shop.jobs (scheduled ++ rest) → 0 < length rest →
    bound_of (jobs_left shop.jobs scheduled) ≤ span shop (scheduled ++ rest)) →
    IsSequence shop.jobs sequence → Extends sequence scheduled → 0 < length set → set ≡ jobs_left shop.jobs scheduled →
    bound ≡ bound_of set → bound ≤ span shop sequence
left-admissible shop scheduled sequence set bound_of bound admissible is extends some left value =
    let whole = subst (IsSequence shop.jobs) extends.1 is in
    let ones = sum_by-jobs_left (λ _. 1) shop.jobs scheduled extends.0 whole in
    let more : 0 < length extends.0 =
    omega (arith, ones, sum_by-ones (jobs_left shop.jobs scheduled), sum_by-ones extends.0, ap length left, some) in
    omega (arith, value, ap bound_of left, admissible extends.0 whole more, ap (span shop) extends.1)
