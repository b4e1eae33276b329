-- The least of the other columns.
use Rattle.std.proofs.Common.{◌≡◌, ◌≢◌, ℕ, zero, suc, ◌<◌, ◌≤◌, min, Bool, true, false, not, ◌||◌, ◌&&◌, nat_eq, nat_lt}
use Rattle.std.proofs.Common.{List, [], ◌∷◌, ◌++◌, slice_index, refl, ap, sym, ◌∙◌, inl, inr, arith}
use Rattle.std.proofs.lemmas.Bool.{cases_lt, ne_eqb, false≢true}
use Rattle.std.proofs.lemmas.Bool.Decides.{eqb_tells, nat_tests}
use Rattle.std.proofs.lemmas.List.Folds.{list_any-append}
use Rattle.flow_shop.specs.Sequences.{has}
use Rattle.flow_shop.proofs.JobsLeft.{bool_cases}
use Rattle.flow_search.specs.internal.Columns.{IsLeastOfOthers}

-- a value is at most the number of each of some columns, and that of a column other than one
record Covers (numbers : List ℕ) (column : ℕ) (columns : List ℕ) (value : ℕ) : Type 0 where
  least : (k : ℕ) → has columns k ≡ true → value ≤ slice_index numbers k
  one : (k : ℕ) × (k < 8) × (k ≢ column) × (value ≡ slice_index numbers k)

-- whether a column is one of the eight and not the one
abbrev is_other : ℕ → ℕ → Bool
is_other column k = nat_lt k 8 && not (nat_eq k column)

is-other : (column k : ℕ) → is_other column k ≡ true → (k < 8) × (k ≢ column)
is-other column k h = (grind (arith, nat_tests), λ e. differ e)
  where
    differ : k ≡ column → ⊥
    differ e = grind (arith, nat_tests)

leaf : (numbers : List ℕ) (column k : ℕ) → is_other column k ≡ true →
    Covers numbers column (k ∷ []) (slice_index numbers k)
leaf numbers column k h = record {
  least = λ i there. elim (eqb_tells i k) [
    | inl same ↦ let e : slice_index numbers i ≡ slice_index numbers k = ap (slice_index numbers) same.1 in omega
        (arith, e)
    | inr differ ↦ absurd (false≢true (sym (ap (λ b. b || false) differ.0) ∙ there))
  ];
  one = (k, (is-other column k h).0, (is-other column k h).1, refl);
}

both : (numbers : List ℕ) (column : ℕ) (xs ys : List ℕ) (u v : ℕ) → Covers numbers column xs u →
    Covers numbers column ys v → Covers numbers column (xs ++ ys) (min u v)
both numbers column xs ys u v a b = record {
  least = λ k there. elim (bool_cases (has xs k)) [
    | inl first ↦ omega (arith, a.least k first)
    | inr none ↦ omega (
      arith,
      b.least k (sym (list_any-append (nat_eq k) xs ys ∙ ap (λ c. c || has ys k) none) ∙
          there),
    )
  ];
  one = elim (cases_lt u v) [
    | inl less ↦ (a.one.0, a.one.1, a.one.2, omega (arith, less, a.one.3))
    | inr more ↦ (b.one.0, b.one.1, b.one.2, omega (arith, more, b.one.3))
  ];
}

-- what holds of each of the columns holds of all
each : (P : ℕ → Type 0) → P 0 → P 1 → P 2 → P 3 → P 4 → P 5 → P 6 → P 7 → (k : ℕ) → k < 8 → P k
each P a b c d e f g h zero low = a
each P a b c d e f g h (suc zero) low = b
each P a b c d e f g h (suc (suc zero)) low = c
each P a b c d e f g h (suc (suc (suc zero))) low = d
each P a b c d e f g h (suc (suc (suc (suc zero)))) low = e
each P a b c d e f g h (suc (suc (suc (suc (suc zero))))) low = f
each P a b c d e f g h (suc (suc (suc (suc (suc (suc zero)))))) low = g
each P a b c d e f g h (suc (suc (suc (suc (suc (suc (suc zero))))))) low = h
each P a b c d e f g h (suc (suc (suc (suc (suc (suc (suc (suc k)))))))) low = absurd (omega (arith, low))

eight : (p : ℕ → Bool) → p 0 ≡ true → p 1 ≡ true → p 2 ≡ true → p 3 ≡ true → p 4 ≡ true → p 5 ≡ true → p 6 ≡ true →
    p 7 ≡ true → (k : ℕ) → k < 8 → p k ≡ true
eight p = each (λ k. p k ≡ true)

-- the partner of a column, and three pairs
seven : (numbers : List ℕ) (column p a x b y c z value : ℕ) → is_other column p ≡ true → is_other column a ≡ true →
    is_other column x ≡ true → is_other column b ≡ true → is_other column y ≡ true → is_other column c ≡ true →
    is_other column
    z ≡ true →
    ((k : ℕ) → k < 8 → (nat_eq k column || has (p ∷ a ∷ x ∷ b ∷ y ∷ c ∷ z ∷ []) k) ≡ true) →
    value ≡ min (slice_index numbers p) (min (min (slice_index numbers a) (slice_index numbers x))
    (min (min (slice_index numbers b) (slice_index numbers y)) (min (slice_index numbers c) (slice_index numbers z)))) →
    IsLeastOfOthers numbers column value
seven numbers column p a x b y c z value op oa ox ob oy oc oz all is =
    let first = both numbers column (a ∷ []) (x ∷ []) (slice_index numbers a) (slice_index numbers x)
    (leaf numbers column a oa) (leaf numbers column x ox) in
    let second = both numbers column (b ∷ []) (y ∷ []) (slice_index numbers b) (slice_index numbers y)
    (leaf numbers column b ob) (leaf numbers column y oy) in
    let third = both numbers column (c ∷ []) (z ∷ []) (slice_index numbers c) (slice_index numbers z)
    (leaf numbers column c oc) (leaf numbers column z oz) in
    let far = both numbers column (b ∷ y ∷ []) (c ∷ z ∷ []) (min (slice_index numbers b) (slice_index numbers y))
    (min (slice_index numbers c) (slice_index numbers z)) second third in
    let six = both numbers column (a ∷ x ∷ []) (b ∷ y ∷ c ∷ z ∷ [])
    (min (slice_index numbers a) (slice_index numbers x)) (min (min (slice_index numbers b) (slice_index numbers y))
    (min (slice_index numbers c) (slice_index numbers z))) first far in
    let whole = both numbers column (p ∷ []) (a ∷ x ∷ b ∷ y ∷ c ∷ z ∷ []) (slice_index numbers p)
    (min (min (slice_index numbers a) (slice_index numbers x))
    (min (min (slice_index numbers b) (slice_index numbers y)) (min (slice_index numbers c) (slice_index numbers z))))
    (leaf numbers column p op) six in
    record {
      least = λ k low other. omega (
        arith,
        is,
        whole.least k (sym (ap (λ t. t || has (p ∷ a ∷ x ∷ b ∷ y ∷ c ∷ z ∷ []) k) (ne_eqb k column other)) ∙
            all k low),
      );
      one = (whole.one.0, whole.one.1, whole.one.2, is ∙ whole.one.3);
    }

-- what the code computes
pub others-are : (t : List ℕ) (p0 p1 p2 p3 low high f0 f1 f2 f3 r0 r1 r2 r3 r4 r5 r6 r7 : ℕ) →
    p0 ≡ min (slice_index t 0) (slice_index t 4) → p1 ≡ min (slice_index t 1) (slice_index t 5) → p2 ≡ min
    (slice_index t 2) (slice_index t 6) → p3 ≡ min (slice_index t 3) (slice_index t 7) →
    low ≡ min p0 p1 → high ≡ min p2 p3 → f0 ≡ min p1 high → f1 ≡ min p0 high → f2 ≡ min p3 low → f3 ≡ min p2 low →
    r0 ≡ min (slice_index t 4) f0 → r1 ≡ min (slice_index t 5) f1 → r2 ≡ min (slice_index t 6) f2 → r3 ≡ min
    (slice_index t 7) f3 →
    r4 ≡ min (slice_index t 0) f0 → r5 ≡ min (slice_index t 1) f1 → r6 ≡ min (slice_index t 2) f2 → r7 ≡ min
    (slice_index t 3) f3 →
    (column : ℕ) → column < 8 → IsLeastOfOthers t column (slice_index (r0 ∷ r1 ∷ r2 ∷ r3 ∷ r4 ∷ r5 ∷ r6 ∷ r7 ∷ [])
    column)
others-are t p0 p1 p2 p3 low high f0 f1 f2 f3 r0 r1 r2 r3 r4 r5 r6 r7 ep0 ep1 ep2 ep3 el eh ef0 ef1 ef2 ef3 e0 e1 e2
    e3 e4 e5 e6 e7 column within =
    let columns : (k : ℕ) → k < 8 → IsLeastOfOthers t k (slice_index (r0 ∷ r1 ∷ r2 ∷ r3 ∷ r4 ∷ r5 ∷ r6 ∷ r7 ∷ []) k) =
    each (λ k. IsLeastOfOthers t k (slice_index (r0 ∷ r1 ∷ r2 ∷ r3 ∷ r4 ∷ r5 ∷ r6 ∷ r7 ∷ []) k))
    (seven t 0 4 1 5 2 6 3 7 r0 refl refl refl refl refl refl refl
    (eight (λ k. nat_eq k 0 || has (4 ∷ 1 ∷ 5 ∷ 2 ∷ 6 ∷ 3 ∷ 7 ∷ []) k) refl refl refl refl refl refl refl refl) cc)
    (seven t 1 5 0 4 2 6 3 7 r1 refl refl refl refl refl refl refl
    (eight (λ k. nat_eq k 1 || has (5 ∷ 0 ∷ 4 ∷ 2 ∷ 6 ∷ 3 ∷ 7 ∷ []) k) refl refl refl refl refl refl refl refl) cc)
    (seven t 2 6 3 7 0 4 1 5 r2 refl refl refl refl refl refl refl
    (eight (λ k. nat_eq k 2 || has (6 ∷ 3 ∷ 7 ∷ 0 ∷ 4 ∷ 1 ∷ 5 ∷ []) k) refl refl refl refl refl refl refl refl) cc)
    (seven t 3 7 2 6 0 4 1 5 r3 refl refl refl refl refl refl refl
    (eight (λ k. nat_eq k 3 || has (7 ∷ 2 ∷ 6 ∷ 0 ∷ 4 ∷ 1 ∷ 5 ∷ []) k) refl refl refl refl refl refl refl refl) cc)
    (seven t 4 0 1 5 2 6 3 7 r4 refl refl refl refl refl refl refl
    (eight (λ k. nat_eq k 4 || has (0 ∷ 1 ∷ 5 ∷ 2 ∷ 6 ∷ 3 ∷ 7 ∷ []) k) refl refl refl refl refl refl refl refl) cc)
    (seven t 5 1 0 4 2 6 3 7 r5 refl refl refl refl refl refl refl
    (eight (λ k. nat_eq k 5 || has (1 ∷ 0 ∷ 4 ∷ 2 ∷ 6 ∷ 3 ∷ 7 ∷ []) k) refl refl refl refl refl refl refl refl) cc)
    (seven t 6 2 3 7 0 4 1 5 r6 refl refl refl refl refl refl refl
    (eight (λ k. nat_eq k 6 || has (2 ∷ 3 ∷ 7 ∷ 0 ∷ 4 ∷ 1 ∷ 5 ∷ []) k) refl refl refl refl refl refl refl refl) cc)
    (seven t 7 3 2 6 0 4 1 5 r7 refl refl refl refl refl refl refl
    (eight (λ k. nat_eq k 7 || has (3 ∷ 2 ∷ 6 ∷ 0 ∷ 4 ∷ 1 ∷ 5 ∷ []) k) refl refl refl refl refl refl refl refl) cc) in
    columns column within
