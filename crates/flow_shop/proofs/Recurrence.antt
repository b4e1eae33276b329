-- Completion times by recurrence are the weights of heaviest paths.
use Rattle.std.proofs.Common.{◌≡◌, ℕ, zero, suc, ◌+◌, ◌-◌, ◌<◌, ◌≤◌, max, cond, List, [], ◌∷◌, ◌++◌, length, map, refl}
use Rattle.std.proofs.Common.{ap, sym, ◌∙◌, inl, inr, arith, add-one}
use Rattle.std.specs.List.{range_with_len, sum_by}
use Rattle.std.proofs.lemmas.List.Sums.{sum_by_push, sum_by-cons}
use Rattle.std.proofs.lemmas.Bool.{cases_lt, eq-eqb}
use Rattle.std.proofs.lemmas.Bool.Decides.{eqb_tells}
use Rattle.flow_shop.specs.Shop.{Shop, numbers, time, time_between}
use Rattle.flow_shop.specs.Least.{greatest}
use Rattle.flow_shop.specs.Paths.{IsPath, weight, paths, completion}
use Rattle.flow_shop.proofs.Extremes.{greatest-flat_map, map-map, range-le-greatest, greatest-range-le}

-- The recurrence of the table: when a job leaves a machine, if each machine is free at its time.
abbrev pub after : Shop → (ℕ → ℕ) → ℕ → ℕ → ℕ
after shop free job zero = 0
after shop free job (suc machine) = max (free (suc machine)) (after shop free job machine) + time shop job (suc machine)

-- the same after a list of jobs
abbrev pub completed : Shop → (ℕ → ℕ) → List ℕ → ℕ → ℕ
completed shop free [] = free
completed shop free (job ∷ jobs) = completed shop (after shop free job) jobs

pub range-more : (a n : ℕ) → range_with_len a (suc n) ≡ range_with_len a n ++ (a + n) ∷ []
range-more a zero = ap (λ x. x ∷ []) (omega arith)
range-more a (suc n) = ap (λ xs. a ∷ xs) (range-more (a + 1) n
    ∙ ap (λ x. range_with_len (a + 1) n ++ x ∷ []) (omega arith))

module _ (shop : Shop) (job : ℕ) where
  pub time_between-more : (a b : ℕ) → a ≤ suc b → time_between shop job a (suc b) ≡ time_between shop job a b
      + time shop job (suc b)
  time_between-more a b h =
      let count : suc b + 1 - a ≡ suc (b + 1 - a) = omega arith in
      let last : a + (b + 1 - a) ≡ suc b = omega arith in
      ap (λ n. sum_by (time shop job) (range_with_len a n)) count
      ∙ ap (sum_by (time shop job)) (range-more a (b + 1 - a))
      ∙ sum_by_push (time shop job) (range_with_len a (b + 1 - a)) (a + (b + 1 - a))
      ∙ ap (λ k. time_between shop job a b + time shop job k) last

  pub time_between-none : (a b : ℕ) → b < a → time_between shop job a b ≡ 0
  time_between-none a b h = let count : b + 1 - a ≡ 0 = omega arith in
      ap (λ n. sum_by (time shop job) (range_with_len a n)) count

  pub time_between-first : (a b : ℕ) → a ≤ b →
      time_between shop job a b ≡ time shop job a + time_between shop job (a + 1) b
  time_between-first a b h =
      let some : b + 1 - a ≡ suc (b - a) = omega arith in
      let rest : b - a ≡ b + 1 - (a + 1) = omega arith in
      ap (λ n. sum_by (time shop job) (range_with_len a n)) some
      ∙ sum_by-cons (time shop job) a (range_with_len (a + 1) (b - a))
      ∙ ap (λ n. time shop job a + sum_by (time shop job) (range_with_len (a + 1) n)) rest

  pub after-above : (free : ℕ → ℕ) (a b : ℕ) → 1 ≤ a → a ≤ b →
      free a + time_between shop job a b ≤ after shop free job b
  after-above free a zero p h = absurd (omega arith)
  after-above free a (suc b) p h =
      elim (cases_lt b a) [
        | inl above ↦
            let same : a ≡ suc b = omega arith in
            let f : free a ≡ free (suc b) = ap free same in
            let none : time_between shop job a b ≡ 0 = time_between-none a b above in
            omega (arith, time_between-more a b h)
        | inr below ↦ omega (arith, time_between-more a b h, after-above free a b p below)
      ]

  pub after-attained : (free : ℕ → ℕ) (b : ℕ) → (a : ℕ) × (1 ≤ a) × (a ≤ suc b)
      × (after shop free job (suc b) ≡ free a + time_between shop job a (suc b))
  after-attained free zero = (
    1,
    omega arith,
    omega arith,
    omega (
      arith,
      time_between-more 1 0 (omega arith),
      time_between-none 1 0
          (omega arith),
    ),
  )
  after-attained free (suc b) =
      elim (cases_lt (free (suc (suc b))) (after shop free job (suc b))) [
        | inl earlier ↦
            let ih = after-attained free b in
            (ih.0, ih.1, omega (arith, ih.2), omega (arith, ih.3, time_between-more ih.0 (suc b) (omega (arith, ih.2))))
        | inr here ↦ (
          suc (suc b),
          omega arith,
          omega arith,
          omega (
            arith,
            time_between-more (suc (suc b)) (suc b)
                (omega arith),
            time_between-none (suc (suc b)) (suc b) (omega arith),
          ),
        )
      ]

  -- the first job
  pub after-first : (b : ℕ) → after shop (λ _. 0) job b ≡ time_between shop job 1 b
  after-first zero = sym (time_between-none 1 0 (omega arith))
  after-first (suc b) = omega (arith, after-first b, time_between-more 1 b (omega arith))

  -- only the machines up to the one asked for matter
  pub after-same : (f g : ℕ → ℕ) (b : ℕ) → ((k : ℕ) → 1 ≤ k → k ≤ b → f k ≡ g k) →
      after shop f job b ≡ after shop g job b
  after-same f g zero h = refl
  after-same f g (suc b) h =
      omega (arith, h (suc b) (omega arith) (omega arith), after-same f g b (λ k p q. h k p (omega arith)))

-- no path is heavier than what the recurrence computes
pub weight-le-completed : (shop : Shop) (free : ℕ → ℕ) (jobs machines : List ℕ) (a k : ℕ) → 1 ≤ a →
    length machines ≡ length jobs → IsPath a machines k → free a + weight shop jobs a machines
    ≤ completed shop free jobs k
weight-le-completed shop free [] [] a k p e path = let f : free a ≡ free k = ap free path in omega arith
weight-le-completed shop free [] (b ∷ bs) a k p e path = absurd (omega arith)
weight-le-completed shop free (j ∷ js) [] a k p e path = absurd (omega arith)
weight-le-completed shop free (j ∷ js) (b ∷ bs) a k p e path =
    let ab : a ≤ b = path.0 in
    omega (
      arith,
      after-above shop j free a b p ab,
      weight-le-completed shop (after shop free j) js bs b k (omega arith)
          (omega arith) path.1,
    )

-- and some path is as heavy
pub completed-attained : (shop : Shop) (free : ℕ → ℕ) (jobs : List ℕ) (k : ℕ) → 1 ≤ k → (a : ℕ) × (machines : List ℕ)
    × (1 ≤ a) × (length machines ≡ length jobs) × IsPath a machines k
    × (completed shop free jobs k ≡ free a + weight shop jobs a machines)
completed-attained shop free [] k p = (k, [], p, refl, refl, omega arith)
completed-attained shop free (j ∷ js) k p =
    let rest = completed-attained shop (after shop free j) js k p in
    let suc_b : rest.0 ≡ suc (rest.0 - 1) = omega (arith, rest.2) in
    let here = after-attained shop j free (rest.0 - 1) in
    let at_b : after shop free j rest.0 ≡ free here.0 + time_between shop j here.0 rest.0 =
    ap (after shop free j) suc_b ∙ here.3 ∙ ap (λ b. free here.0 + time_between shop j here.0 b) (sym suc_b) in (
      here.0,
      rest.0 ∷ rest.1,
      here.1,
      ap suc rest.3,
      (omega (arith, here.2, suc_b), rest.4),
      omega
          (arith, rest.5, at_b),
    )

-- what the recurrence computes from machines that are all free at 0, for some jobs, is the weight of a path from
-- machine 1
pub completed-path : (shop : Shop) (jobs : List ℕ) (k : ℕ) → 0 < length jobs → 1 ≤ k → (machines : List ℕ)
    × (length machines ≡ length jobs) × IsPath 1 machines k
    × (weight shop jobs 1 machines ≡ completed shop (λ _. 0) jobs k)
completed-path shop [] k some p = absurd (omega arith)
completed-path shop (j ∷ js) k some p =
    let rest = completed-attained shop (after shop (λ _. 0) j) js k p in
    (rest.0 ∷ rest.1, ap suc rest.3, (rest.2, rest.4), omega (arith, rest.5, after-first shop j rest.0))

pub path-up : (machines : List ℕ) (a k : ℕ) → IsPath a machines k → a ≤ k
path-up [] a k path = omega arith
path-up (b ∷ bs) a k path = omega (arith, path.0, path-up bs b k path.1)

-- the greatest value of a path that goes through a machine next
abbrev through : (List ℕ → ℕ) → ℕ → ℕ → ℕ → ℕ
through value jobs k b = greatest (map value (map (λ machines. b ∷ machines) (paths jobs b k)))

through-is : (value : List ℕ → ℕ) (jobs b k : ℕ) → through value jobs k b
    ≡ greatest (map (λ machines. value (b ∷ machines)) (paths jobs b k))
through-is value jobs b k = ap greatest (map-map value (λ machines. b ∷ machines) (paths jobs b k))

through-all : (value : List ℕ → ℕ) (jobs a k : ℕ) → greatest (map value (paths (suc jobs) a k))
    ≡ greatest (map (through value jobs k) (numbers a k))
through-all value jobs a k =
    greatest-flat_map value (λ b. map (λ machines. b ∷ machines) (paths jobs b k)) (numbers a k)

-- the list of all paths has each path, and nothing else
pub path-le-greatest : (value : List ℕ → ℕ) (jobs : ℕ) (machines : List ℕ) (a k : ℕ) → length machines ≡ jobs →
    IsPath a machines k → value machines ≤ greatest (map value (paths jobs a k))
path-le-greatest value zero [] a k e path =
    let only : paths zero a k ≡ [] ∷ [] = ap (λ b. cond b ([] ∷ []) []) (eq-eqb a k path) in
    let same : greatest (map value (paths zero a k)) ≡ max (value []) 0 = ap (λ ps. greatest (map value ps)) only in
    omega arith
path-le-greatest value zero (b ∷ bs) a k e path = absurd (omega arith)
path-le-greatest value (suc jobs) [] a k e path = absurd (omega arith)
path-le-greatest value (suc jobs) (b ∷ bs) a k e path =
    let low : a ≤ b = path.0 in
    let high : b ≤ k = path-up bs b k path.1 in
    let ih : value (b ∷ bs) ≤ greatest (map (λ machines. value (b ∷ machines)) (paths jobs b k)) =
    path-le-greatest (λ machines. value (b ∷ machines)) jobs bs b k (omega arith) path.1 in
    let at_b = range-le-greatest (through value jobs k) a (k + 1 - a) b low (omega arith) in
    let here = through-is value jobs b k in
    let all = through-all value jobs a k in
    omega (arith, ih, at_b, here, all)

pub greatest-path-le : (value : List ℕ → ℕ) (jobs a k bound : ℕ) →
    ((machines : List ℕ) → length machines ≡ jobs → IsPath a machines k → value machines ≤ bound) →
    greatest (map value (paths jobs a k)) ≤ bound
greatest-path-le value zero a k bound h =
    elim (eqb_tells a k) [
      | inl same ↦
          let only : greatest (map value (paths zero a k)) ≡ max (value []) 0 =
          ap (λ b. greatest (map value (cond b ([] ∷ []) []))) same.0 in
          omega (arith, only, h [] refl same.1)
      | inr other ↦
          let none : greatest (map value (paths zero a k)) ≡ 0 =
          ap (λ b. greatest (map value (cond b ([] ∷ []) []))) other.0 in
          omega (arith, none)
    ]
greatest-path-le value (suc jobs) a k bound h =
    let each = greatest-range-le (through value jobs k) a (k + 1 - a) bound (λ b low high.
    let here = through-is value jobs b k in
    let ih = greatest-path-le (λ machines. value (b ∷ machines)) jobs b k bound (λ machines e path. h (b
    ∷ machines) (ap suc e) (low, path)) in
    omega (arith, here, ih)) in
    let all = through-all value jobs a k in
    omega (arith, each, all)

pub completed-zero : (shop : Shop) (free : ℕ → ℕ) (jobs : List ℕ) → free 0 ≡ 0 → completed shop free jobs 0 ≡ 0
completed-zero shop free [] z = z
completed-zero shop free (j ∷ js) z = completed-zero shop (after shop free j) js refl

completed-le : (shop : Shop) (jobs : List ℕ) (k : ℕ) → completed shop (λ _. 0) jobs k
    ≤ greatest (map (weight shop jobs 1) (paths (length jobs) 1 k))
completed-le shop [] k = omega arith
completed-le shop (j ∷ js) zero = omega (arith, completed-zero shop (λ _. 0) (j ∷ js) refl)
completed-le shop (j ∷ js) (suc k) =
    let path = completed-path shop (j ∷ js) (suc k) (omega arith) (omega arith) in
    let least = path-le-greatest (weight shop (j ∷ js) 1) (suc (length js)) path.0 1 (suc k) path.1 path.2 in
    omega (arith, path.3, least)

pub completion-is : (shop : Shop) (jobs : List ℕ) (k : ℕ) → completion shop jobs k ≡ completed shop (λ _. 0) jobs k
unfolding completion
completion-is shop jobs k =
    let below : greatest (map (weight shop jobs 1) (paths (length jobs) 1 k)) ≤ completed shop (λ _. 0) jobs k =
    greatest-path-le (weight shop jobs 1) (length jobs) 1 k (completed shop (λ _. 0) jobs k)
    (λ machines e path. omega (arith, weight-le-completed shop (λ _. 0) jobs machines 1 k (omega arith) e path)) in
    let above : completed shop (λ _. 0) jobs k ≤ greatest (map (weight shop jobs 1) (paths (length jobs) 1 k)) =
    completed-le shop jobs k in
    omega (arith, below, above)

pub completion-attained : (shop : Shop) (jobs : List ℕ) (k : ℕ) → 0 < length jobs → 1 ≤ k → (machines : List ℕ)
    × (length machines ≡ length jobs) × IsPath 1 machines k × (weight shop jobs 1 machines ≡ completion shop jobs k)
completion-attained shop jobs k some p =
    let path = completed-path shop jobs k some p in
    (path.0, path.1, path.2, path.3 ∙ sym (completion-is shop jobs k))

pub weight-le-completion : (shop : Shop) (jobs machines : List ℕ) (k : ℕ) → length machines ≡ length jobs →
    IsPath 1 machines k → weight shop jobs 1 machines ≤ completion shop jobs k
unfolding completion
weight-le-completion shop jobs machines k e path =
    path-le-greatest (weight shop jobs 1) (length jobs) machines 1 k e path

pub completed-push : (shop : Shop) (free : ℕ → ℕ) (jobs : List ℕ) (job k : ℕ) →
    completed shop free (jobs ++ job ∷ []) k ≡ after shop (completed shop free jobs) job k
completed-push shop free [] job k = refl
completed-push shop free (j ∷ js) job k = completed-push shop (after shop free j) js job k

pub completion-after : (shop : Shop) (jobs : List ℕ) (job k : ℕ) →
    completion shop (jobs ++ job ∷ []) k ≡ after shop (completed shop (λ _. 0) jobs) job k
completion-after shop jobs job k = completion-is shop (jobs ++ job ∷ []) k ∙ completed-push shop (λ _. 0) jobs job k

pub completion-push : (shop : Shop) (jobs : List ℕ) (job k : ℕ) →
    completion shop (jobs ++ job ∷ []) (k + 1)
    ≡ max (completion shop jobs (k + 1)) (completion shop (jobs ++ job ∷ []) k) + time shop job (k + 1)
completion-push shop jobs job k =
    let next = completion-after shop jobs job (suc k) in
    let this = completion-after shop jobs job k in
    let before = completion-is shop jobs (suc k) in
    let p : completion shop (jobs ++ job ∷ []) (suc k)
    ≡ max (completion shop jobs (suc k)) (completion shop (jobs ++ job ∷ []) k) + time shop job (suc k) =
    omega (arith, next, this, before) in
    rw add-one p
