-- Fronts, backs and the jobs left of a node once a job is put at an end.
use Rattle.std.proofs.Common.{◌≡◌, ℕ, suc, ◌+◌, ◌<◌, ◌≤◌, max, Bool, true, false, not, ◌||◌, nat_eq, List, []}
use Rattle.std.proofs.Common.{◌∷◌, ◌++◌, length, refl, ap, sym, ◌∙◌, inl, inr, arith, add-one}
use Rattle.std.specs.List.{sum_by}
use Rattle.std.proofs.lemmas.Bool.{cases_lt}
use Rattle.std.proofs.lemmas.List.Elements.{recursion_from_All}
use Rattle.std.proofs.lemmas.List.Folds.{list_any-append}
use Rattle.flow_shop.specs.Shop.{Shop, time, time_between}
use Rattle.flow_shop.specs.Sequences.{has, jobs_left}
use Rattle.flow_shop.specs.declared.end.End.{End}
use Rattle.flow_shop.specs.declared.end.End.TheVariants.{Front, Back}
use Rattle.flow_shop.specs.Ends.{head, tail, front, path_tail, back, FrontByRecurrence, BackByRecurrence}
use Rattle.flow_shop.specs.Directions.{first_with, last_with}
use Rattle.flow_shop.proofs.Recurrence.{after, completed, completed-push, after-same}
use Rattle.flow_shop.proofs.Recurrence.{time_between-first, time_between-none}
use Rattle.flow_shop.proofs.JobsLeft.{InRange, range-push, filter-same}
use Rattle.flow_shop.proofs.Taken.{has-push, left-sum, left-count}
use Rattle.flow_shop.proofs.EndBounds.{front-is, tail-le}
use Rattle.flow_shop.proofs.PathTails.{weight-le-tail, tail-none, tail-past, tail-step}

-- fronts

pub front-after : (shop : Shop) (first : List ℕ) (job k : ℕ) → InRange shop.jobs first → 1 ≤ job → job ≤ shop.jobs →
    front shop (first ++ job ∷ []) k ≡ after shop (front shop first) job k
front-after shop first job k range low high =
    front-is shop (first ++ job ∷ []) k (range-push shop.jobs first job range low high)
    ∙ completed-push shop (head shop) first job k
    ∙ after-same shop job (completed shop (head shop) first) (front shop first) k
    (λ i _ _. sym (front-is shop first i range))

-- backs

pub time-alone : (shop : Shop) (job k : ℕ) → time_between shop job k k ≡ time shop job k
time-alone shop job k =
    omega (arith, time_between-first shop job k k (omega arith), time_between-none shop job (k + 1) k (omega arith))

-- the tail of a machine is no greater than the path tail of a job from the next one
tail-within : (shop : Shop) (job k : ℕ) → 1 ≤ job → job ≤ shop.jobs → k ≤ shop.machines →
    tail shop k ≤ path_tail shop (job ∷ []) (k + 1)
tail-within shop job k low to high =
    elim (cases_lt k shop.machines) [
      | inl before ↦
          let path = weight-le-tail shop (job ∷ []) (shop.machines ∷ []) (k + 1) refl (omega arith, refl) in
          omega (arith, tail-le shop job k low to, path)
      | inr last ↦
          omega (
            arith,
            tail-le shop job k low to,
            time_between-none shop job (k + 1) shop.machines (omega (arith, last)),
          )
    ]

pub back-past : (shop : Shop) (last : List ℕ) (job k : ℕ) → shop.machines < k → back shop (job ∷ last) k ≡ 0
back-past shop last job k past = tail-past shop job last k past

pub back-is : (shop : Shop) (last : List ℕ) (job k : ℕ) → 1 ≤ job → job ≤ shop.jobs → k ≤ shop.machines →
    back shop (job ∷ last) k ≡ max (back shop (job ∷ last) (k + 1)) (back shop last k) + time shop job k
back-is shop [] job k low to high =
    omega (arith, tail-step shop job [] k high, tail-none shop k, tail-within shop job k low to high)
back-is shop (j ∷ js) job k low to high = omega (arith, tail-step shop job (j ∷ js) k high)

-- the jobs left

pub has-child : (end : End) (first last : List ℕ) (job k : ℕ) →
    has (first_with end first job ++ last_with end last job) k ≡ has ((first ++ last) ++ job ∷ []) k
has-child Front first last job k =
    list_any-append (nat_eq k) (first ++ job ∷ []) last
    ∙ ap (λ b. b || has last k) (has-push first job k)
    ∙ turned (has first k) (nat_eq k job) (has last k)
    ∙ ap (λ b. b || nat_eq k job) (sym (list_any-append (nat_eq k) first last))
    ∙ sym (has-push (first ++ last) job k)
  where
    turned : (a b c : Bool) → ((a || b) || c) ≡ ((a || c) || b)
    turned true b c = refl
    turned false true true = refl
    turned false true false = refl
    turned false false true = refl
    turned false false false = refl
has-child Back first last job k =
    list_any-append (nat_eq k) first (job ∷ last)
    ∙ turned (has first k) (nat_eq k job) (has last k)
    ∙ ap (λ b. b || nat_eq k job) (sym (list_any-append (nat_eq k) first last))
    ∙ sym (has-push (first ++ last) job k)
  where
    turned : (a b c : Bool) → (a || (b || c)) ≡ ((a || c) || b)
    turned true b c = refl
    turned false true true = refl
    turned false true false = refl
    turned false false true = refl
    turned false false false = refl

pub left-child : (n : ℕ) (end : End) (first last : List ℕ) (job : ℕ) →
    jobs_left n (first_with end first job ++ last_with end last job) ≡ jobs_left n ((first ++ last) ++ job ∷ [])
left-child n end first last job =
    filter-same (λ k. not (has (first_with end first job ++ last_with end last job) k))
    (λ k. not (has ((first ++ last) ++ job ∷ []) k)) n (λ k _ _. ap not (has-child end first last job k))

pub sum-child : (f : ℕ → ℕ) (n : ℕ) (end : End) (first last : List ℕ) (job : ℕ) → 1 ≤ job → job ≤ n →
    has (first ++ last) job ≡ false →
    sum_by f (jobs_left n (first ++ last))
    ≡ f job + sum_by f (jobs_left n (first_with end first job ++ last_with end last job))
sum-child f n end first last job low high fresh =
    left-sum f n (first ++ last) job low high fresh
    ∙ ap (λ xs. f job + sum_by f xs) (sym (left-child n end first last job))

pub count-child : (n : ℕ) (end : End) (first last : List ℕ) (job : ℕ) → 1 ≤ job → job ≤ n →
    has (first ++ last) job ≡ false →
    length (jobs_left n (first ++ last))
    ≡ suc (length (jobs_left n (first_with end first job ++ last_with end last job)))
count-child n end first last job low high fresh =
    left-count n (first ++ last) job low high fresh
    ∙ ap (λ xs. suc (length xs)) (sym (left-child n end first last job))

-- the laws

pub front_by_recurrence : FrontByRecurrence
front_by_recurrence shop first job machine all low high =
    let range = recursion_from_All (λ job. (1 ≤ job) × (job ≤ shop.jobs)) first all in
    let next = front-after shop first job (suc machine) range low high in
    let this = front-after shop first job machine range low high in
    let step : front shop (first ++ job ∷ []) (suc machine)
    ≡ max (front shop first (suc machine)) (front shop (first ++ job ∷ []) machine) + time shop job (suc machine) =
    omega (arith, next, this) in
    (front-after shop first job 0 range low high, rw add-one step)

pub back_by_recurrence : BackByRecurrence
back_by_recurrence shop last job machine low to high =
    (back-past shop last job (shop.machines + 1) (omega arith), back-is shop last job machine low to high)
