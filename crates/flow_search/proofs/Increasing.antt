-- Increasing lists: the numbers of a range that pass a test.
use Rattle.std.proofs.Common.{◌≡◌, ◌≢◌, ℕ, zero, suc, ◌+◌, ◌<◌, ◌≤◌, Bool, true, false, cond, ◌||◌, List, []}
use Rattle.std.proofs.Common.{◌∷◌, ◌++◌, length, take, drop, slice_index, refl, ap, sym, ◌∙◌, inl, inr, arith}
use Rattle.std.specs.List.{filter, range_with_len}
use Rattle.std.proofs.lemmas.Bool.{cases_eq, cases_lt, false≢true}
use Rattle.std.proofs.lemmas.Bool.Decides.{eqb_tells}
use Rattle.flow_shop.specs.Sequences.{has}
use Rattle.flow_shop.proofs.JobsLeft.{bool_cases}

-- what a list has stands at one of its places
pub place-of : (xs : List ℕ) (job : ℕ) → has xs job ≡ true → (k : ℕ) × (k < length xs) × (slice_index xs k ≡ job)
place-of [] job h = absurd (false≢true h)
place-of (x ∷ xs) job h = elim (eqb_tells job x) [
  | inl same ↦ (0, omega arith, sym same.1)
  | inr differ ↦
      let rest = place-of xs job (sym (ap (λ b. b || has xs job) differ.0) ∙ h) in
      (suc rest.0, omega (arith, rest.1), rest.2)
]

-- what passes a test stands in increasing order
abbrev pub Increases : ℕ → List ℕ → Type 0
Increases from [] = Unit {0}
Increases from (x ∷ xs) = (from ≤ x) × Increases (x + 1) xs

increases-weak : (a b : ℕ) (xs : List ℕ) → a ≤ b → Increases b xs → Increases a xs
increases-weak a b [] h is = tt
increases-weak a b (x ∷ xs) h is = (omega (arith, h, is.0), is.1)

pub increases-filter : (p : ℕ → Bool) (a n : ℕ) → Increases a (filter p (range_with_len a n))
increases-filter p a zero = tt
increases-filter p a (suc n) =
    let rest : Increases (a + 1) (filter p (range_with_len (a + 1) n)) = increases-filter p (a + 1) n in
    elim (p a) as (λ b. Increases a (cond b (a ∷ filter p (range_with_len (a + 1) n)) (filter p (range_with_len (a
    + 1) n)))) [
      | true ↦ (omega arith, rest)
      | false ↦ increases-weak a (a + 1) (filter p (range_with_len (a + 1) n)) (omega arith) rest
    ]

pub increases-from : (from : ℕ) (xs : List ℕ) (k : ℕ) → Increases from xs → k < length xs → from ≤ slice_index xs k
increases-from from [] k is low = absurd (omega (arith, low))
increases-from from (x ∷ xs) zero is low = is.0
increases-from from (x ∷ xs) (suc k) is low = omega (arith, is.0, increases-from (x + 1) xs k is.1 (omega (arith, low)))

pub increases-order : (from : ℕ) (xs : List ℕ) (i j : ℕ) → Increases from xs → i < j → j < length xs →
    slice_index xs i < slice_index xs j
increases-order from [] i j is less low = absurd (omega (arith, low))
increases-order from (x ∷ xs) i zero is less low = absurd (omega (arith, less))
increases-order from (x ∷ xs) zero (suc j) is less low =
    omega (arith, increases-from (x + 1) xs j is.1 (omega (arith, low)))
increases-order from (x ∷ xs) (suc i) (suc j) is less low =
    increases-order (x + 1) xs i j is.1 (omega (arith, less)) (omega (arith, low))

-- two tests that agree on a range
same-filter : (p q : ℕ → Bool) (from n : ℕ) → ((k : ℕ) → from ≤ k → q k ≡ p k) →
    filter q (range_with_len from n) ≡ filter p (range_with_len from n)
same-filter p q from zero same = refl
same-filter p q from (suc n) same =
    let rest : (r : ℕ → Bool) → List ℕ = λ r. filter r (range_with_len (from + 1) n) in
    ap (λ b. cond b (from ∷ rest q) (rest q)) (same from (omega arith))
    ∙ ap (λ xs. cond (p from) (from ∷ xs) xs) (same-filter p q (from + 1) n (λ k low. same k (omega (arith, low))))

-- a number that both tests refuse
skipped : (p q : ℕ → Bool) (from n at column : ℕ) → ((k : ℕ) → k ≢ column → q k ≡ p k) → q column ≡ false →
    p from ≡ false →
    (filter p (range_with_len from (suc n)) ≡ filter p (range_with_len (from + 1) n))
    × (filter q (range_with_len from (suc n)) ≡ filter q (range_with_len (from + 1) n))
skipped p q from n at column same gone fail =
    let rest : (r : ℕ → Bool) → List ℕ = λ r. filter r (range_with_len (from + 1) n) in
    let out : q from ≡ false =
    elim (cases_eq from column) [ inl here ↦ ap q here ∙ gone | inr other ↦ same from other ∙ fail ] in
    (ap (λ b. cond b (from ∷ rest p) (rest p)) fail, ap (λ b. cond b (from ∷ rest q) (rest q)) out)

-- the numbers that pass one test, without that at a place, pass the other
pub without-one : (p q : ℕ → Bool) (from n at column : ℕ) → ((k : ℕ) → k ≢ column → q k ≡ p k) → q column ≡ false →
    at < length (filter p (range_with_len from n)) → slice_index (filter p (range_with_len from n)) at ≡ column →
    filter q (range_with_len from n)
    ≡ take at (filter p (range_with_len from n)) ++ drop (suc at) (filter p (range_with_len from n))
without-one p q from zero at column same gone low here = absurd (omega (arith, low))
without-one p q from (suc n) zero column same gone low here =
    let rest : (r : ℕ → Bool) → List ℕ = λ r. filter r (range_with_len (from + 1) n) in
    elim (bool_cases (p from)) [
      | inl pass ↦
          let all : filter p (range_with_len from (suc n)) ≡ from ∷ rest p =
          ap (λ b. cond b (from ∷ rest p) (rest p)) pass in
          let first : from ≡ column = ap (λ xs. slice_index xs 0) (sym all) ∙ here in
          ap (λ b. cond b (from ∷ rest q) (rest q)) (ap q first ∙ gone)
          ∙ same-filter p q (from + 1) n (λ k above. same k (omega (arith, above, first)))
          ∙ ap (λ xs. take 0 xs ++ drop 1 xs) (sym all)
      | inr fail ↦
          let skip = skipped p q from n 0 column same gone fail in
          skip.1
          ∙ without-one p q (from + 1) n zero column same gone (omega (arith, low, ap length skip.0))
          (ap (λ xs. slice_index xs 0) (sym skip.0) ∙ here)
          ∙ ap (λ xs. take 0 xs ++ drop 1 xs) (sym skip.0)
    ]
without-one p q from (suc n) (suc at) column same gone low here =
    let rest : (r : ℕ → Bool) → List ℕ = λ r. filter r (range_with_len (from + 1) n) in
    elim (bool_cases (p from)) [
      | inl pass ↦
          let all : filter p (range_with_len from (suc n)) ≡ from ∷ rest p =
          ap (λ b. cond b (from ∷ rest p) (rest p)) pass in
          let later : slice_index (rest p) at ≡ column = ap (λ xs. slice_index xs (suc at)) (sym all) ∙ here in
          let within : at < length (rest p) = omega (arith, low, ap length all) in
          let above : from + 1 ≤ slice_index (rest p) at =
          increases-from (from + 1) (rest p) at (increases-filter p (from + 1) n) within in
          let apart : from ≢ column = λ e. omega (arith, e, above, later) in
          ap (λ b. cond b (from ∷ rest q) (rest q)) (same from apart ∙ pass)
          ∙ ap (λ xs. from ∷ xs) (without-one p q (from + 1) n at column same gone within later)
          ∙ ap (λ xs. take (suc at) xs ++ drop (suc (suc at)) xs) (sym all)
      | inr fail ↦
          let skip = skipped p q from n (suc at) column same gone fail in
          skip.1
          ∙ without-one p q (from + 1) n (suc at) column same gone (omega (arith, low, ap length skip.0))
          (ap (λ xs. slice_index xs (suc at)) (sym skip.0) ∙ here)
          ∙ ap (λ xs. take (suc at) xs ++ drop (suc (suc at)) xs) (sym skip.0)
    ]

-- what stands where, once the number at a place is gone
pub before-gone : (xs : List ℕ) (at k : ℕ) → k < at → at < length xs →
    slice_index (take at xs ++ drop (suc at) xs) k ≡ slice_index xs k
before-gone [] at k less low = absurd (omega (arith, low))
before-gone (x ∷ xs) zero k less low = absurd (omega (arith, less))
before-gone (x ∷ xs) (suc at) zero less low = refl
before-gone (x ∷ xs) (suc at) (suc k) less low = before-gone xs at k (omega (arith, less)) (omega (arith, low))

pub behind-gone : (xs : List ℕ) (at k : ℕ) → at ≤ k → at < length xs →
    slice_index (take at xs ++ drop (suc at) xs) k ≡ slice_index xs (suc k)
behind-gone [] at k less low = absurd (omega (arith, low))
behind-gone (x ∷ xs) zero k less low = refl
behind-gone (x ∷ xs) (suc at) zero less low = absurd (omega (arith, less))
behind-gone (x ∷ xs) (suc at) (suc k) less low = behind-gone xs at k (omega (arith, less)) (omega (arith, low))

pub size-gone : (xs : List ℕ) (at : ℕ) → at < length xs → length (take at xs ++ drop (suc at) xs) + 1 ≡ length xs
size-gone [] at low = absurd (omega (arith, low))
size-gone (x ∷ xs) zero low = omega arith
size-gone (x ∷ xs) (suc at) low = omega (arith, size-gone xs at (omega (arith, low)))

-- places that hold the numbers, once one is taken out of both
pub places-gone : (places made numbers rest : List ℕ) (at : ℕ) →
    ((k : ℕ) → k < length numbers → slice_index places k ≡ slice_index numbers k) →
    rest ≡ take at numbers ++ drop (suc at) numbers → at < length numbers → length numbers ≤ 8 →
    ((k : ℕ) → k < at → k < 8 → slice_index made k ≡ slice_index places k) →
    ((k : ℕ) → at ≤ k → k < 7 → slice_index made k ≡ slice_index places (k + 1)) →
    (k : ℕ) → k < length rest → slice_index made k ≡ slice_index rest k
places-gone places made numbers rest at same is within few before behind k low =
    let size : length rest + 1 ≡ length numbers = omega (arith, size-gone numbers at within, ap length is) in
    elim (cases_lt k at) [
      | inl less ↦
          before k less (omega (arith, low, size, few)) ∙ same k (omega (arith, low, size))
          ∙ sym (ap (λ xs. slice_index xs k) is ∙ before-gone numbers at k less within)
      | inr more ↦
          let e : k + 1 ≡ suc k = omega arith in
          behind k more (omega (arith, low, size, few)) ∙ ap (slice_index places) e
          ∙ same (suc k) (omega (arith, low, size))
          ∙ sym (ap (λ xs. slice_index xs k) is ∙ behind-gone numbers at k more within)
    ]

-- the numbers below a threshold
pub below-filter : (p : ℕ → Bool) (from n count : ℕ) → count ≤ n →
    ((k : ℕ) → from ≤ k → k < from + count → p k ≡ true) →
    ((k : ℕ) → from + count ≤ k → k < from + n → p k ≡ false) →
    filter p (range_with_len from n) ≡ range_with_len from count
below-filter p from zero count few pass fail = ap (range_with_len from) (let e : 0 ≡ count = omega (arith, few) in e)
below-filter p from (suc n) zero few pass fail =
    ap (λ b. cond b (from ∷ filter p (range_with_len (from + 1) n)) (filter p (range_with_len (from + 1) n)))
    (fail from (omega arith) (omega arith))
    ∙ below-filter p (from + 1) n 0 (omega arith) (λ k low high. absurd (omega (arith, low, high)))
    (λ k low high. fail k (omega (arith, low)) (omega (arith, high)))
below-filter p from (suc n) (suc count) few pass fail =
    ap (λ b. cond b (from ∷ filter p (range_with_len (from + 1) n)) (filter p (range_with_len (from + 1) n)))
    (pass from (omega arith) (omega arith))
    ∙ ap (λ xs. from ∷ xs) (below-filter p (from + 1) n count (omega (arith, few))
    (λ k low high. pass k (omega (arith, low)) (omega (arith, high)))
    (λ k low high. fail k (omega (arith, low)) (omega (arith, high))))

pub size-filter : (p : ℕ → Bool) (from n : ℕ) → length (filter p (range_with_len from n)) ≤ n
size-filter p from zero = omega arith
size-filter p from (suc n) =
    elim (p from) as (λ b. length (cond b (from ∷ filter p (range_with_len (from + 1) n))
    (filter p (range_with_len (from + 1) n))) ≤ suc n) [
      | true ↦ omega (arith, size-filter p (from + 1) n)
      | false ↦ omega (arith, size-filter p (from + 1) n)
    ]
