-- When the jobs of a list leave the machines, one job and one machine at a time.
use Rattle.std.proofs.Common.{◌≡◌, refl, ap, subst, sym, ◌∙◌, ℕ, ◌+◌, ◌-◌, ◌<◌, ◌≤◌, max, List, [], ◌∷◌, ◌++◌}
use Rattle.std.proofs.Common.{length, take, slice_index, set, length-take, arith, inl, inr, ◌≢◌}
use Rattle.std.proofs.lemmas.Bool.{cases_lt}
use Rattle.std.proofs.lemmas.List.{take_more, get_or-set_other, get_or-set_same}
use Rattle.flow_limits.specs.Limits.{most_jobs, most_machines, greatest_completion}
use Rattle.flow_shop.specs.Shop.{Shop, IsWithinLimits, time}
use Rattle.flow_shop.specs.Paths.{completion}
use Rattle.flow_shop.proofs.Recurrence.{completion-is, completed-zero, completion-push}
use Rattle.flow_shop.proofs.Fronts.{completion-small}

-- no machine comes before the first one
pub at-begin : (shop : Shop) (jobs : List ℕ) → completion shop jobs 0 ≡ 0
at-begin shop jobs = completion-is shop jobs 0 ∙ completed-zero shop (λ _. 0) jobs refl

-- no time of a sequence overflows
pub small : (shop : Shop) (list : List ℕ) (count machine : ℕ) → IsWithinLimits shop → length list ≡ shop.jobs →
    machine ≤ shop.machines → completion shop (take count list) machine ≤ greatest_completion
small shop list count machine limits whole to =
    let jobs_limit : shop.jobs ≤ most_jobs = limits.jobs in
    let machines_limit : shop.machines ≤ most_machines = limits.machines in
    let short : length (take count list) ≤ length list = simp length-take (omega arith) in
    omega (arith, completion-small shop (take count list) machine limits, short)

-- one more job on a machine: it begins when the job before it has left the machine, and it has left the one before
pub step : (shop : Shop) (list : List ℕ) (count machine before left value : ℕ) → count < length list → 1 ≤ machine →
    before ≡ completion shop (take count list) machine →
    left ≡ completion shop (take (count + 1) list) (machine - 1) →
    value ≡ max before left + time shop (slice_index list count) machine →
    value ≡ completion shop (take (count + 1) list) machine
step shop list count machine before left value within from is_before is_left is =
    let job : ℕ = slice_index list count in
    let k : ℕ = machine - 1 in
    let e : k + 1 ≡ machine = omega arith in
    let all : take (count + 1) list ≡ take count list ++ job ∷ [] = take_more list count 0 within in
    let pushed : completion shop (take (count + 1) list) (k + 1)
    ≡ max (completion shop (take count list) (k + 1)) (completion shop (take (count + 1) list) k)
    + time shop job (k + 1) =
    subst (λ (jobs : List ℕ). completion shop jobs (k + 1)
    ≡ max (completion shop (take count list) (k + 1)) (completion shop jobs k) + time shop job (k + 1))
    (sym all) (completion-push shop (take count list) job k) in
    let here : completion shop (take (count + 1) list) machine
    ≡ max (completion shop (take count list) machine) (completion shop (take (count + 1) list) k)
    + time shop job machine =
    subst (λ (m : ℕ). completion shop (take (count + 1) list) m
    ≡ max (completion shop (take count list) m) (completion shop (take (count + 1) list) k) + time shop job m) e
    pushed in
    is ∙ ap (λ b. max b left + time shop job machine) is_before
    ∙ ap (λ l. max (completion shop (take count list) machine) l + time shop job machine) is_left ∙ sym here

-- one more machine of a list that has a value for each
pub put : (value : ℕ → ℕ) (times : List ℕ) (machine here : ℕ) → 1 ≤ machine → machine - 1 < length times →
    here ≡ value machine → ((k : ℕ) → 1 ≤ k → k < machine → slice_index times (k - 1) ≡ value k) → (k : ℕ) → 1 ≤ k →
    k < machine + 1 → slice_index (set times (machine - 1) here) (k - 1) ≡ value k
put value times machine here from within is done k low high =
    elim (cases_lt k machine) [
      | inl below ↦ let other : k - 1 ≢ machine - 1 = omega arith in rw get_or-set_other (done k low below)
      | inr last ↦
          let e : k ≡ machine = omega arith in
          ap (λ (m : ℕ). slice_index (set times (machine - 1) here) (m - 1)) e
          ∙ get_or-set_same times (machine - 1) here 0 within ∙ is ∙ ap value (sym e)
    ]
