-- The jobs that a list leaves, and sums over them.
use Rattle.std.proofs.Common.{◌⊎◌, ◌≡◌, ℕ, zero, suc, ◌+◌, ◌-◌, ◌*◌, ◌<◌, ◌≤◌, Bool, true, false, cond, not, ◌||◌}
use Rattle.std.proofs.Common.{nat_eq, List, [], ◌∷◌, ◌++◌, length, map, refl, ap, sym, ◌∙◌, subst, inl, inr, arith}
use Rattle.std.proofs.Common.{length-append}
use Rattle.std.specs.List.{filter, range_with_len, sum_by, AllByRecursion}
use Rattle.std.proofs.lemmas.List.{append-nil}
use Rattle.std.proofs.lemmas.List.Elements.{filter-append, recursion_from_All}
use Rattle.std.proofs.lemmas.List.Folds.{list_any-append}
use Rattle.std.proofs.lemmas.List.Sums.{sum_by-append, sum_by-cons}
use Rattle.std.proofs.lemmas.Bool.{cases_lt, eq-eqb, ne_eqb, false≢true}
use Rattle.std.proofs.lemmas.Bool.Decides.{eqb_tells}
use Rattle.flow_shop.specs.Shop.{numbers}
use Rattle.flow_shop.specs.Least.{least}
use Rattle.flow_shop.specs.Sequences.{has, jobs_left, AreDistinct, IsSequence}
use Rattle.std.proofs.Math.Bool.{or-true}
use Rattle.flow_shop.proofs.Lists.{all-push, all-at, has-first}
use Rattle.flow_shop.proofs.Recurrence.{range-more}

pub bool_cases : (b : Bool) → (b ≡ true) ⊎ (b ≡ false)
bool_cases true = inl refl
bool_cases false = inr refl

pub numbers-more : (n : ℕ) → numbers 1 (suc n) ≡ numbers 1 n ++ suc n ∷ []
numbers-more n =
    let e : suc n + 1 - 1 ≡ suc (n + 1 - 1) = omega arith in
    let last : 1 + (n + 1 - 1) ≡ suc n = omega arith in
    ap (range_with_len 1) e ∙ range-more 1 (n + 1 - 1) ∙ ap (λ k. numbers 1 n ++ k ∷ []) last

pub filter-more : (p : ℕ → Bool) (n : ℕ) → filter p (numbers 1 (suc n)) ≡ filter p (numbers 1 n)
    ++ cond (p (suc n)) (suc n ∷ []) []
filter-more p n = ap (filter p) (numbers-more n) ∙ filter-append p (numbers 1 n) (suc n ∷ [])

-- two tests that agree on the numbers
pub filter-same : (p q : ℕ → Bool) (n : ℕ) → ((k : ℕ) → 1 ≤ k → k ≤ n → p k ≡ q k) →
    filter p (numbers 1 n) ≡ filter q (numbers 1 n)
filter-same p q zero h = refl
filter-same p q (suc n) h =
    filter-more p n
    ∙ ap (λ xs. xs ++ cond (p (suc n)) (suc n ∷ []) []) (filter-same p q n (λ k low high. h k low (omega arith)))
    ∙ ap (λ b. filter q (numbers 1 n) ++ cond b (suc n ∷ []) []) (h (suc n) (omega arith) (omega arith))
    ∙ sym (filter-more q n)

-- past the last number that passes the range does not matter
pub filter-past : (p : ℕ → Bool) (a d : ℕ) → ((k : ℕ) → a < k → p k ≡ false) →
    filter p (numbers 1 (d + a)) ≡ filter p (numbers 1 a)
filter-past p a zero h = ap (λ n. filter p (numbers 1 n)) (omega arith)
filter-past p a (suc d) h =
    let e : suc d + a ≡ suc (d + a) = omega arith in
    ap (λ n. filter p (numbers 1 n)) e
    ∙ filter-more p (d + a)
    ∙ ap (λ b. filter p (numbers 1 (d + a)) ++ cond b (suc (d + a) ∷ []) []) (h (suc (d + a)) (omega arith))
    ∙ append-nil (filter p (numbers 1 (d + a)))
    ∙ filter-past p a d h

-- the sum over the numbers that pass a test
abbrev pub kept : (ℕ → ℕ) → (ℕ → Bool) → ℕ → ℕ
kept f p n = sum_by f (filter p (numbers 1 n))

sum_by-one_or_none : (f : ℕ → ℕ) (k : ℕ) (b : Bool) → sum_by f (cond b (k ∷ []) []) ≡ cond b (f k) 0
sum_by-one_or_none f k true = omega arith
sum_by-one_or_none f k false = refl

pub kept-more : (f : ℕ → ℕ) (p : ℕ → Bool) (n : ℕ) → kept f p (suc n) ≡ kept f p n + cond (p (suc n)) (f (suc n)) 0
kept-more f p n =
    ap (sum_by f) (filter-more p n)
    ∙ sum_by-append f (filter p (numbers 1 n)) (cond (p (suc n)) (suc n ∷ []) [])
    ∙ ap (λ x. kept f p n + x) (sum_by-one_or_none f (suc n) (p (suc n)))

-- one more number, which is kept or not
pub kept-step : (f : ℕ → ℕ) (p : ℕ → Bool) (k : ℕ) → 1 ≤ k →
    kept f p (k + 1 - 1) ≡ kept f p (k - 1) + cond (p k) (f k) 0
kept-step f p zero low = absurd (omega arith)
kept-step f p (suc n) low =
    let a : suc n + 1 - 1 ≡ suc n = omega arith in
    let b : n ≡ suc n - 1 = omega arith in
    ap (kept f p) a ∙ kept-more f p n ∙ ap (λ m. kept f p m + cond (p (suc n)) (f (suc n)) 0) b

-- a sum of so many small values is small
pub kept-small : (f : ℕ → ℕ) (p : ℕ → Bool) (most n : ℕ) → ((k : ℕ) → f k ≤ most) → kept f p n ≤ n * most
kept-small f p most zero small = omega arith
kept-small f p most (suc n) small =
    omega (arith, kept-more f p n, kept-small f p most n small, one (p (suc n)) (f (suc n)), small (suc n))
  where
    one : (b : Bool) (v : ℕ) → cond b v 0 ≤ v
    one true v = omega arith
    one false v = omega arith

-- a test that one more number passes
abbrev pub with_one : (ℕ → Bool) → ℕ → ℕ → Bool
with_one p j k = nat_eq k j || p k

-- below that threshold it is as it was
pub filter-before : (p : ℕ → Bool) (j n : ℕ) → n < j → filter (with_one p j) (numbers 1 n) ≡ filter p (numbers 1 n)
filter-before p j n h =
    filter-same (with_one p j) p n (λ k from to. ap (λ b. b || p k) (ne_eqb k j (omega arith)))

-- and from there on the sum has that number too
pub kept-from : (f : ℕ → ℕ) (p : ℕ → Bool) (j : ℕ) → p j ≡ false → (n : ℕ) → 1 ≤ j → j ≤ n →
    kept f (with_one p j) n ≡ f j + kept f p n
kept-from f p j fresh zero low h = absurd (omega arith)
kept-from f p j fresh (suc n) low h =
    elim (cases_lt n j) [
      | inl here ↦
          let e : suc n ≡ j = omega arith in
          let pass : with_one p j (suc n) ≡ true = ap (λ b. b || p (suc n)) (eq-eqb (suc n) j e) in
          let none : p (suc n) ≡ false = ap p e ∙ fresh in
          let value : f (suc n) ≡ f j = ap f e in
          omega (
            arith,
            kept-more f (with_one p j) n,
            kept-more f p n,
            ap (sum_by f) (filter-before p j n here),
            ap (λ b. cond b (f (suc n)) 0) pass,
            ap (λ b. cond b (f (suc n)) 0) none,
          )
      | inr below ↦
          let same : with_one p j (suc n) ≡ p (suc n) = ap (λ b. b || p (suc n)) (ne_eqb (suc n) j (omega arith)) in
          omega (
            arith,
            kept-more f (with_one p j) n,
            kept-more f p n,
            kept-from f p j fresh n low below,
            ap (λ b. cond b (f (suc n)) 0) same,
          )
    ]

abbrev pub InRange : ℕ → List ℕ → Type 0
InRange n jobs = AllByRecursion (λ job. (1 ≤ job) × (job ≤ n)) jobs

-- the sum over the numbers that a list of distinct jobs has is that over the list
pub kept-has : (f : ℕ → ℕ) (n : ℕ) (jobs : List ℕ) → InRange n jobs → AreDistinct jobs →
    kept f (has jobs) n ≡ sum_by f jobs
kept-has f n [] range distinct = nothing n
  where
    nothing : (n : ℕ) → kept f (has []) n ≡ 0
    nothing zero = refl
    nothing (suc n) = omega (arith, kept-more f (has []) n, nothing n)
kept-has f n (j ∷ js) range distinct =
    kept-from f (has js) j distinct.0 n range.0.0 range.0.1
    ∙ ap (λ x. f j + x) (kept-has f n js range.1 distinct.1)
    ∙ sym (sum_by-cons f j js)

pub sum_by-ones : (xs : List ℕ) → sum_by (λ _. 1) xs ≡ length xs
sum_by-ones [] = refl
sum_by-ones (x ∷ xs) = omega (arith, sum_by-cons (λ _. 1) x xs, sum_by-ones xs)

pub kept-le : (p : ℕ → Bool) (n : ℕ) → kept (λ _. 1) p n ≤ n
kept-le p zero = omega arith
kept-le p (suc n) = omega (arith, kept-more (λ _. 1) p n, kept-le p n, one (p (suc n)))
  where
    one : (b : Bool) → cond b 1 0 ≤ 1
    one true = omega arith
    one false = omega arith

all_kept : (p : ℕ → Bool) (n : ℕ) → kept (λ _. 1) p n ≡ n → (k : ℕ) → 1 ≤ k → k ≤ n → p k ≡ true
all_kept p zero e k low high = absurd (omega arith)
all_kept p (suc n) e k low high =
    elim (bool_cases (p (suc n))) [
      | inl pass ↦
          let one : cond {A = ℕ} (p (suc n)) 1 0 ≡ 1 = ap (λ b. cond b 1 0) pass in
          let rest : kept (λ _. 1) p n ≡ n = omega (arith, kept-more (λ _. 1) p n, kept-le p n) in
          elim (cases_lt k (suc n)) [
            | inl below ↦ all_kept p n rest k low (omega arith)
            | inr here ↦ let same : k ≡ suc n = omega arith in ap p same ∙ pass
          ]
      | inr fail ↦
          let none : cond {A = ℕ} (p (suc n)) 1 0 ≡ 0 = ap (λ b. cond b 1 0) fail in
          absurd (omega (arith, kept-more (λ _. 1) p n, kept-le p n))
    ]

-- a sequence has each job
pub sequence-has : (n : ℕ) (jobs : List ℕ) → IsSequence n jobs → (k : ℕ) → 1 ≤ k → k ≤ n → has jobs k ≡ true
sequence-has n jobs is =
    let range = recursion_from_All (λ job. (1 ≤ job) × (job ≤ n)) jobs is.each.range in
    all_kept (has jobs) n (kept-has (λ _. 1) n jobs range is.each.distinct ∙ sum_by-ones jobs ∙ is.whole)

pub InRange-rest : (n : ℕ) (jobs rest : List ℕ) → InRange n (jobs ++ rest) → InRange n rest
InRange-rest n [] rest r = r
InRange-rest n (j ∷ js) rest r = InRange-rest n js rest r.1

pub InRange-first : (n : ℕ) (jobs rest : List ℕ) → InRange n (jobs ++ rest) → InRange n jobs
InRange-first n [] rest range = tt
InRange-first n (j ∷ js) rest range = (range.0, InRange-first n js rest range.1)

-- one more job
pub range-push : (n : ℕ) (jobs : List ℕ) (job : ℕ) → InRange n jobs → 1 ≤ job → job ≤ n → InRange n (jobs ++ job ∷ [])
range-push n jobs job range low high = all-push (λ job. (1 ≤ job) × (job ≤ n)) jobs job range (low, high)

-- the jobs of a sequence
pub in-range : (n : ℕ) (jobs : List ℕ) → IsSequence n jobs → InRange n jobs
in-range n jobs is = recursion_from_All (λ job. (1 ≤ job) × (job ≤ n)) jobs is.each.range

pub distinct-rest : (jobs rest : List ℕ) → AreDistinct (jobs ++ rest) → AreDistinct rest
distinct-rest [] rest d = d
distinct-rest (j ∷ js) rest d = distinct-rest js rest d.1

pub or_false : (a b : Bool) → (a || b) ≡ false → (a ≡ false) × (b ≡ false)
or_false true b h = absurd (false≢true (sym h))
or_false false b h = (refl, h)

pub distinct-first : (jobs rest : List ℕ) → AreDistinct (jobs ++ rest) → AreDistinct jobs
distinct-first [] rest distinct = tt
distinct-first (j ∷ js) rest distinct = (
  (or_false (has js j) (has rest j) (sym (list_any-append (nat_eq j) js rest) ∙ distinct.0)).0,
  distinct-first js rest distinct.1,
)

-- no job of the first part stands in the rest
pub apart : (jobs rest : List ℕ) (k : ℕ) → AreDistinct (jobs ++ rest) → has jobs k ≡ true → has rest k ≡ false
apart [] rest k d h = absurd (false≢true h)
apart (j ∷ js) rest k d h =
    elim (eqb_tells k j) [
      | inl same ↦ ap (has rest) same.1
          ∙ (or_false (has js j) (has rest j) (sym (list_any-append (nat_eq j) js rest) ∙ d.0)).1
      | inr other ↦ apart js rest k d.1 (sym (ap (λ b. b || has js k) other.0) ∙ h)
    ]

-- the jobs that a list leaves are those of the rest of a sequence that extends it
pub jobs_left-is : (n : ℕ) (jobs rest : List ℕ) → IsSequence n (jobs ++ rest) →
    jobs_left n jobs ≡ filter (has rest) (numbers 1 n)
jobs_left-is n jobs rest is = filter-same (λ k. not (has jobs k)) (has rest) n (λ k low high.
    elim (bool_cases (has jobs k)) [
      | inl pass ↦ ap not pass ∙ sym (apart jobs rest k is.each.distinct pass)
      | inr fail ↦ ap not fail
          ∙ sym (sym (ap (λ b. b || has rest k) fail) ∙ sym (list_any-append (nat_eq k) jobs rest)
          ∙ sequence-has n (jobs ++ rest) is k low high)
    ])

pub sum_by-jobs_left : (f : ℕ → ℕ) (n : ℕ) (jobs rest : List ℕ) → IsSequence n (jobs ++ rest) →
    sum_by f (jobs_left n jobs) ≡ sum_by f rest
sum_by-jobs_left f n jobs rest is =
    let range = recursion_from_All (λ job. (1 ≤ job) × (job ≤ n)) (jobs ++ rest) is.each.range in
    ap (sum_by f) (jobs_left-is n jobs rest is)
    ∙ kept-has f n rest (InRange-rest n jobs rest range) (distinct-rest jobs rest is.each.distinct)

-- the least of a list is at most the value at each of its jobs
pub least-le : (f : ℕ → ℕ) (jobs : List ℕ) (k : ℕ) → has jobs k ≡ true → least (map f jobs) ≤ f k
least-le f [] k h = absurd (false≢true h)
least-le f (x ∷ []) k h = elim (eqb_tells k x) [
  | inl same ↦ let e : f k ≡ f x = ap f same.1 in
      omega arith
  | inr other ↦ absurd (false≢true (sym (ap (λ b. b || false) other.0) ∙ h))
]
least-le f (x ∷ y ∷ ys) k h = elim (eqb_tells k x) [
  | inl same ↦ let e : f k ≡ f x = ap f same.1 in omega arith
  | inr other ↦ let ih : least (map f (y ∷ ys)) ≤ f k =
      least-le f (y ∷ ys) k (sym (ap (λ b. b || has (y ∷ ys) k) other.0) ∙ h) in omega arith
]

pub has-filter : (p : ℕ → Bool) (n k : ℕ) → p k ≡ true → 1 ≤ k → k ≤ n → has (filter p (numbers 1 n)) k ≡ true
has-filter p zero k pass low high = absurd (omega arith)
has-filter p (suc n) k pass low high =
    ap (λ xs. has xs k) (filter-more p n)
    ∙ list_any-append (nat_eq k) (filter p (numbers 1 n)) (cond (p (suc n)) (suc n ∷ []) [])
    ∙ elim (cases_lt k (suc n)) as (λ _. (has (filter p (numbers 1 n)) k || has (cond (p (suc n)) (suc n ∷ []) []) k)
    ≡ true) [
      | inl below ↦ ap (λ b. b || has (cond (p (suc n)) (suc n ∷ []) []) k) (has-filter p n k pass low (omega arith))
      | inr here ↦
          let e : k ≡ suc n = omega arith in
          let there : p (suc n) ≡ true = sym (ap p e) ∙ pass in
          let found : has (cond (p (suc n)) (suc n ∷ []) []) k ≡ true =
          ap (λ b. has (cond b (suc n ∷ []) []) k) there ∙ ap (λ b. b || false) (eq-eqb k (suc n) e) in
          ap (λ b. has (filter p (numbers 1 n)) k || b) found ∙ or-true (has (filter p (numbers 1 n)) k)
    ]

-- each job of the rest of a sequence is left
pub left-has : (n : ℕ) (jobs rest : List ℕ) (k : ℕ) → IsSequence n (jobs ++ rest) → has rest k ≡ true → 1 ≤ k → k ≤ n →
    has (jobs_left n jobs) k ≡ true
left-has n jobs rest k is pass low high = ap (λ xs. has xs k) (jobs_left-is n jobs rest is)
    ∙ has-filter (has rest) n k pass low high

-- the next job of a sequence is left
pub next-left : (n : ℕ) (jobs : List ℕ) (j : ℕ) (rest : List ℕ) → IsSequence n (jobs ++ j ∷ rest) →
    has (jobs_left n jobs) j ≡ true
next-left n jobs j rest is =
    let range = all-at (λ job. (1 ≤ job) × (job ≤ n)) jobs j rest (recursion_from_All (λ job. (1 ≤ job)
    × (job ≤ n)) (jobs ++ j ∷ rest) is.each.range) in
    left-has n jobs (j ∷ rest) j is (has-first j rest) range.0 range.1

-- a fact of each job that a list leaves
pub each-left : (P : ℕ → Type 0) (list : List ℕ) (a len : ℕ) →
    ((job : ℕ) → a ≤ job → job < a + len → has list job ≡ false → P job) →
    AllByRecursion P (filter (λ job. not (has list job)) (range_with_len a len))
each-left P list a zero h = tt
each-left P list a (suc len) h =
    let rest : List ℕ = filter (λ job. not (has list job)) (range_with_len (a + 1) len) in
    let more : AllByRecursion P rest =
    each-left P list (a + 1) len (λ job low high fresh. h job (omega arith) (omega (arith, high)) fresh) in
    elim (bool_cases (has list a)) [
      | inl there ↦ subst (AllByRecursion P) (sym (ap (λ b. cond (not b) (a ∷ rest) rest) there)) more
      | inr fresh ↦ subst (AllByRecursion P) (sym (ap (λ b. cond (not b) (a ∷ rest) rest) fresh))
          (h a (omega arith) (omega arith) fresh, more)
    ]

-- the empty list leaves all
pub none-has : (n : ℕ) → length (jobs_left n []) ≡ n
none-has zero = refl
none-has (suc n) = omega (
  arith,
  ap length (filter-more (λ job. true) n),
  length-append (filter (λ job. true) (numbers 1 n)) (suc n ∷ []),
  none-has n,
)
