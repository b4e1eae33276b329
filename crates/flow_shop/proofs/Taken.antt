-- The jobs that a list leaves, once one of them is taken.
use Rattle.std.proofs.Common.{◌≡◌, ◌≢◌, ℕ, zero, suc, ◌+◌, ◌-◌, ◌<◌, ◌≤◌, Bool, true, false, cond, not, ◌||◌, nat_eq}
use Rattle.std.proofs.Common.{List, [], ◌∷◌, ◌++◌, length, refl, ap, ◌∙◌, arith, length-append}
use Rattle.std.specs.List.{filter, range_with_len, sum_by}
use Rattle.std.proofs.lemmas.List.Elements.{filter-append}
use Rattle.std.proofs.lemmas.List.Folds.{list_any-append}
use Rattle.std.proofs.lemmas.List.Sums.{sum_by-append, sum_by-cons}
use Rattle.std.proofs.lemmas.Bool.{eq-eqb, ne_eqb}
use Rattle.flow_shop.specs.Shop.{numbers}
use Rattle.flow_shop.specs.Sequences.{has, jobs_left}
use Rattle.std.proofs.Math.Bool.{or-true}

-- whether a longer list has a job

pub has-push : (list : List ℕ) (job k : ℕ) → has (list ++ job ∷ []) k ≡ (has list k || nat_eq k job)
has-push list job k = list_any-append (nat_eq k) list (job ∷ []) ∙ ap (λ b. has list k || b) (or_none (nat_eq k job))
  where
    or_none : (b : Bool) → (b || false) ≡ b
    or_none true = refl
    or_none false = refl

pub has-other : (list : List ℕ) (job k : ℕ) → k ≢ job → has (list ++ job ∷ []) k ≡ has list k
has-other list job k h = has-push list job k ∙ ap (λ b. has list k || b) (ne_eqb k job h) ∙ or_none (has list k)
  where
    or_none : (b : Bool) → (b || false) ≡ b
    or_none true = refl
    or_none false = refl

pub has-same : (list : List ℕ) (job : ℕ) → has (list ++ job ∷ []) job ≡ true
has-same list job = has-push list job job ∙ ap (λ b. has list job || b) (eq-eqb job job refl) ∙ or-true (has list job)

pub has-more : (list : List ℕ) (job k : ℕ) → has list k ≡ true → has (list ++ job ∷ []) k ≡ true
has-more list job k h = has-push list job k ∙ ap (λ b. b || nat_eq k job) h

-- jobs of a range

pub range-split : (a c d : ℕ) → range_with_len a (c + d) ≡ range_with_len a c ++ range_with_len (a + c) d
range-split a zero d = ap (λ n. range_with_len n (0 + d)) (omega arith) ∙ ap (range_with_len (a + 0)) (omega arith)
range-split a (suc c) d =
    let n : suc c + d ≡ suc (c + d) = omega arith in
    let m : a + 1 + c ≡ a + suc c = omega arith in
    ap (range_with_len a) n ∙ ap (λ xs. a ∷ xs) (range-split (a + 1) c d)
    ∙ ap (λ k. a ∷ range_with_len (a + 1) c ++ range_with_len k d) m

pub range-same : (p q : ℕ → Bool) (a len : ℕ) → ((k : ℕ) → a ≤ k → k < a + len → p k ≡ q k) →
    filter p (range_with_len a len) ≡ filter q (range_with_len a len)
range-same p q a zero h = refl
range-same p q a (suc len) h =
    ap (λ b. cond b (a ∷ filter p (range_with_len (a + 1) len)) (filter p (range_with_len (a
    + 1) len))) (h a (omega arith) (omega arith))
    ∙ ap (λ xs. cond (q a) (a ∷ xs) xs) (range-same p q (a
    + 1) len (λ k low high. h k (omega arith) (omega (arith, high))))

-- the numbers before one, it, and those behind it
pub numbers-split : (n job : ℕ) → 1 ≤ job → job ≤ n → numbers 1 n ≡ numbers 1 (job - 1) ++ job ∷ numbers (job + 1) n
numbers-split n job low high =
    let len : n + 1 - 1 ≡ (job - 1 + 1 - 1) + suc (n - job) = omega arith in
    let from : 1 + (job - 1 + 1 - 1) ≡ job = omega arith in
    let rest : n - job ≡ n + 1 - (job + 1) = omega arith in
    ap (range_with_len 1) len
    ∙ range-split 1 (job - 1 + 1 - 1) (suc (n - job))
    ∙ ap (λ k. numbers 1 (job - 1) ++ range_with_len k (suc (n - job))) from
    ∙ ap (λ k. numbers 1 (job - 1) ++ job ∷ range_with_len (job + 1) k) rest

-- the jobs that a list leaves below one of them
abbrev pub left_under : List ℕ → ℕ → List ℕ
left_under list job = filter (λ k. not (has list k)) (numbers 1 (job - 1))

-- and those from one on
abbrev pub left_from : ℕ → List ℕ → ℕ → List ℕ
left_from n list job = filter (λ k. not (has list k)) (numbers job n)

-- the jobs left, parted at one of them
pub left-split : (n : ℕ) (list : List ℕ) (job : ℕ) → 1 ≤ job → job ≤ n → has list job ≡ false →
    jobs_left n list ≡ left_under list job ++ job ∷ left_from n list (job + 1)
left-split n list job low high fresh =
    let p : ℕ → Bool = λ k. not (has list k) in
    ap (filter p) (numbers-split n job low high)
    ∙ filter-append p (numbers 1 (job - 1)) (job ∷ numbers (job + 1) n)
    ∙ ap (λ b. filter p (numbers 1 (job - 1))
    ++ cond b (job ∷ filter p (numbers (job + 1) n)) (filter p (numbers (job + 1) n))) (ap not fresh)

-- and those left once it is taken
pub left-without : (n : ℕ) (list : List ℕ) (job : ℕ) → 1 ≤ job → job ≤ n →
    jobs_left n (list ++ job ∷ []) ≡ left_under list job ++ left_from n list (job + 1)
left-without n list job low high =
    let p : ℕ → Bool = λ k. not (has list k) in
    let q : ℕ → Bool = λ k. not (has (list ++ job ∷ []) k) in
    ap (filter q) (numbers-split n job low high)
    ∙ filter-append q (numbers 1 (job - 1)) (job ∷ numbers (job + 1) n)
    ∙ ap (λ b. filter q (numbers 1 (job - 1))
    ++ cond b (job ∷ filter q (numbers (job + 1) n)) (filter q (numbers (job + 1) n))) (ap not (has-same list job))
    ∙ ap (λ xs. xs ++ filter q (numbers (job + 1) n)) (range-same q p 1 (job - 1
    + 1 - 1) (λ k a b. ap not (has-other list job k (omega (arith, b)))))
    ∙ ap (λ xs. filter p (numbers 1 (job - 1))
    ++ xs) (range-same q p (job + 1) (n + 1 - (job
    + 1)) (λ k a b. ap not (has-other list job k (omega (arith, a)))))

-- sums and counts over the jobs left
pub left-sum : (f : ℕ → ℕ) (n : ℕ) (list : List ℕ) (job : ℕ) → 1 ≤ job → job ≤ n → has list job ≡ false →
    sum_by f (jobs_left n list) ≡ f job + sum_by f (jobs_left n (list ++ job ∷ []))
left-sum f n list job low high fresh =
    let a = ap (sum_by f) (left-split n list job low high fresh)
    ∙ sum_by-append f (left_under list job) (job ∷ left_from n list (job + 1)) in
    let b = sum_by-cons f job (left_from n list (job + 1)) in
    let c = ap (sum_by f) (left-without n list job low high)
    ∙ sum_by-append f (left_under list job) (left_from n list (job + 1)) in
    omega (arith, a, b, c)

pub left-count : (n : ℕ) (list : List ℕ) (job : ℕ) → 1 ≤ job → job ≤ n → has list job ≡ false →
    length (jobs_left n list) ≡ suc (length (jobs_left n (list ++ job ∷ [])))
left-count n list job low high fresh =
    let a = ap length (left-split n list job low high fresh)
    ∙ length-append (left_under list job) (job ∷ left_from n list (job + 1)) in
    let c = ap length (left-without n list job low high)
    ∙ length-append (left_under list job) (left_from n list (job + 1)) in
    omega (arith, a, c)
