-- What the code of a node computes, machine by machine and job by job.
use Rattle.std.proofs.Common.{◌≡◌, ◌≢◌, ℕ, zero, suc, ◌+◌, ◌-◌, ◌<◌, ◌≤◌, min, List, [], ◌∷◌, ◌++◌, length}
use Rattle.std.proofs.Common.{map, slice_index, set, refl, ap, sym, ◌∙◌, subst, inl, inr, arith, length-append}
use Rattle.std.proofs.lemmas.Bool.{cases_lt}
use Rattle.std.proofs.lemmas.List.{get_or-set_same, get_or-set_other}
use Rattle.flow_limits.specs.Limits.{most_jobs, most_machines, greatest_completion, greatest_time}
use Rattle.flow_shop.specs.Shop.{Shop, IsWithinLimits, numbers}
use Rattle.flow_shop.specs.Rows.{IsRow}
use Rattle.flow_shop.specs.declared.row.Row.{Row}
use Rattle.flow_shop.specs.Least.{least}
use Rattle.flow_shop.proofs.Recurrence.{completion-is, after-first}
use Rattle.flow_shop.proofs.Extremes.{map-map-append}
use Rattle.flow_shop.proofs.JobsLeft.{InRange, numbers-more}
use Rattle.flow_shop.proofs.Ranges.{numbers-step}
use Rattle.flow_shop.proofs.Fronts.{completion-small, tail-small, time-small}
use Rattle.flow_shop.specs.Ends.{front, back}
use Rattle.flow_shop.proofs.EndBounds.{head-le, tail-le, through}

least-push : (xs : List ℕ) (x : ℕ) → 0 < length xs → least (xs ++ x ∷ []) ≡ min (least xs) x
least-push [] x some = absurd (omega arith)
least-push (y ∷ []) x some = refl
least-push (y ∷ z ∷ zs) x some = omega (arith, least-push (z ∷ zs) x (omega arith))

length-map : (f : ℕ → ℕ) (xs : List ℕ) → length (map f xs) ≡ length xs
length-map f [] = refl
length-map f (x ∷ xs) = ap suc (length-map f xs)

some-numbers : (n : ℕ) → 0 < length (numbers 1 (suc n))
some-numbers n = omega (arith, ap length (numbers-more n), length-append (numbers 1 n) (suc n ∷ []))

pub least-step : (f : ℕ → ℕ) (k : ℕ) → 2 ≤ k →
    least (map f (numbers 1 (k + 1 - 1))) ≡ min (least (map f (numbers 1 (k - 1)))) (f k)
least-step f zero low = absurd (omega arith)
least-step f (suc zero) low = absurd (omega arith)
least-step f (suc (suc n)) low =
    let e : suc n ≡ suc (suc n) - 1 = omega arith in
    let some : 0 < length (map f (numbers 1 (suc (suc n) - 1))) = omega (
      arith,
      length-map f (numbers 1 (suc (suc n) - 1)),
      some-numbers n,
      ap (λ i. length (numbers 1 i)) e,
    ) in
    ap (λ xs. least (map f xs)) (numbers-step (suc (suc n)) (omega arith))
    ∙ ap least (map-map-append f (numbers 1 (suc (suc n) - 1)) (suc (suc n) ∷ []))
    ∙ least-push (map f (numbers 1 (suc (suc n) - 1))) (f (suc (suc n))) some

-- one more place of a table, from the last one on
pub filled-down : (P : ℕ → ℕ → Type 0) (xs : List ℕ) (machine value : ℕ) → 1 ≤ machine → machine - 1 < length xs →
    P machine value → (most : ℕ) → ((k : ℕ) → machine < k → k ≤ most → P k (slice_index xs (k - 1))) → (k : ℕ) →
    machine - 1 < k → k ≤ most → P k (slice_index (set xs (machine - 1) value) (k - 1))
filled-down P xs machine value from within here most before k low high =
    elim (cases_lt machine k) [
      | inl above ↦
          let other : k - 1 ≢ machine - 1 = omega arith in
          subst (P k) (sym (get_or-set_other xs (machine - 1) (k - 1) value 0 other)) (before k above high)
      | inr below ↦
          let e : machine ≡ k = omega arith in
          let there : slice_index (set xs (machine - 1) value) (k - 1) ≡ value =
          ap (λ i. slice_index (set xs (machine - 1) value) (i - 1)) (sym e)
          ∙ get_or-set_same xs (machine - 1) value 0 within in
          subst (P k) (sym there) (subst (λ i. P i value) e here)
    ]

-- fronts, backs and heads fit
pub front-small : (shop : Shop) (first : List ℕ) (k : ℕ) → IsWithinLimits shop → length first ≤ shop.jobs →
    k ≤ shop.machines → front shop first k ≤ greatest_completion
front-small shop [] k limits short high =
    let some : 1 ≤ shop.jobs = limits.some_job in
    let most : shop.machines ≤ most_machines = limits.machines in
    omega (
      arith,
      head-le shop 1 k (omega arith) some,
      after-first shop 1 (k - 1),
      completion-is shop (1 ∷ []) (k - 1),
      completion-small shop (1 ∷ []) (k - 1) limits,
    )
front-small shop (j ∷ js) k limits short high =
    let jobs : shop.jobs ≤ most_jobs = limits.jobs in
    let most : shop.machines ≤ most_machines = limits.machines in
    omega (arith, completion-small shop (j ∷ js) k limits)

pub back-small : (shop : Shop) (last : List ℕ) (k : ℕ) → IsWithinLimits shop → length last ≤ shop.jobs →
    InRange shop.jobs last → 1 ≤ k → k ≤ shop.machines → back shop last k ≤ greatest_completion
back-small shop [] k limits short range low high =
    let some : 1 ≤ shop.jobs = limits.some_job in
    let most : shop.machines ≤ most_machines = limits.machines in
    omega (
      arith,
      tail-le shop 1 k (omega arith) some,
      tail-small shop 1 (shop.machines - k) k limits (omega (arith, high)),
    )
back-small shop (j ∷ js) k limits short range low high =
    let jobs : shop.jobs ≤ most_jobs = limits.jobs in
    let most : shop.machines ≤ most_machines = limits.machines in
    omega (
      arith,
      through shop (λ _. 0) j js k low high range,
      completion-is shop (j ∷ js) shop.machines,
      completion-small shop (j ∷ js) shop.machines limits,
    )

-- one more place is written, counted up
pub filled-up : (P : ℕ → ℕ → Type 0) (numbers : List ℕ) (at value : ℕ) → at < length numbers → P at value →
    ((place : ℕ) → place < at → P place (slice_index numbers place)) → (place : ℕ) → place < at + 1 →
    P place (slice_index (set numbers at value) place)
filled-up P numbers at value within here before place low = elim (cases_lt place at) [
  | inl below ↦
      let other : place ≢ at = omega arith in
      subst (P place) (sym (get_or-set_other numbers at place value 0 other)) (before place below)
  | inr above ↦
      let e : at ≡ place = omega arith in
      let there : slice_index (set numbers at value) place ≡ value =
      ap (slice_index (set numbers at value)) (sym e) ∙ get_or-set_same numbers at value 0 within in
      subst (P place) (sym there) (subst (λ i. P i value) e here)
]

-- the times of a row are small
pub row-small : (shop : Shop) (job : ℕ) (row : Row) (place : ℕ) → IsWithinLimits shop → IsRow shop job row →
    place < shop.machines → slice_index row.times place ≤ greatest_time
row-small shop job row place limits is low =
    let same : place ≡ place + 1 - 1 = omega arith in
    omega (
      arith,
      ap (slice_index row.times) same,
      (is (place + 1) (omega arith) (omega arith)).0,
      time-small shop job (place + 1) limits,
    )
