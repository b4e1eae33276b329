-- The two least of some numbers.
use Rattle.std.proofs.Common.{◌≡◌, ◌≢◌, ℕ, zero, suc, ◌<◌, ◌≤◌, min, max, List, [], ◌∷◌, ◌++◌, length, map, refl, ap, sym}
use Rattle.std.proofs.Common.{◌∙◌, inl}
use Rattle.std.proofs.Common.{inr, arith}
use Rattle.std.specs.List.{All, Contains, slice_index_or}
use Rattle.std.proofs.lemmas.Bool.{cases_lt}
use Rattle.std.proofs.lemmas.Bool.Decides.{eqb_tells}
use Rattle.flow_shop.specs.Least.{least}
use Rattle.flow_shop.specs.TwoLeast.{IsLeastWithout, LeastWithoutOneIsFound, least_below, second_below}

without-more : (y p q m v : ℕ) → p ≤ q → p ≤ y → IsLeastWithout y p q m → IsLeastWithout y (min p v) (min q (max p v))
    (min m v)
without-more y p q m v ordered low is = elim (eqb_tells y p) [
  | inl same ↦
      let e : y ≡ p = same.1 in
      let f : m ≡ q = is.0 e in
      (λ g. omega (arith, e, f, g, ordered), λ g. omega (arith, e, f, g, ordered))
  | inr other ↦
      let f : m ≡ p = is.1 other.1 in
      let n : y ≢ p = other.1 in
      (λ g. omega (arith, n, f, g, ordered, low), λ g. omega (arith, f))
]

without-rest : (y p q m : ℕ) (vs : List ℕ) → p ≤ q → p ≤ y → IsLeastWithout y p q m →
    IsLeastWithout y (least_below p vs) (second_below p q vs) (least_below m vs)
without-rest y p q m [] ordered low is = is
without-rest y p q m (v ∷ vs) ordered low is =
    without-rest y (min p v) (min q (max p v)) (min m v) vs (omega (arith, ordered)) (omega (arith, low))
    (without-more y p q m v ordered low is)

pub without-one : (y a b : ℕ) (us vs : List ℕ) → a ≤ b →
    IsLeastWithout y (least_below a (us ++ y ∷ vs)) (second_below a b (us ++ y ∷ vs)) (least_below a (us ++ vs))
without-one y a b (u ∷ us) vs ordered = without-one y (min a u) (min b (max a u)) us vs (omega (arith, ordered))
without-one y a b [] vs ordered =
    without-rest y (min a y) (min b (max a y)) a vs (omega (arith, ordered)) (omega arith) (
      λ g. omega
          (arith, g, ordered),
      λ g. omega (arith, g),
    )

-- there is one least without a number
pub same-without : (y z p q r s m n : ℕ) → y ≡ z → p ≡ q → r ≡ s → IsLeastWithout y p r m → IsLeastWithout z q s n →
    m ≡ n
same-without y z p q r s m n yz pq rs a b = elim (eqb_tells y p) [
  | inl same ↦ omega (arith, a.0 same.1, b.0 (sym yz ∙ same.1 ∙ pq), rs)
  | inr other ↦ omega (arith, a.1 other.1, b.1 (λ e. other.1 (yz ∙ e ∙ sym pq)), pq)
]

pub least-without-one : LeastWithoutOneIsFound
least-without-one first second one value before after ordered is =
    let whole : List ℕ = before ++ one ∷ after in
    same-without one one (least_below first whole) (least_below first whole) (second_below first second whole)
    (second_below first second whole) value (least_below first (before ++ after)) refl refl refl is
    (without-one one first second before after ordered)

least-below-first : (a : ℕ) (xs : List ℕ) → least_below a xs ≤ a
least-below-first a [] = omega arith
least-below-first a (x ∷ xs) = omega (arith, least-below-first (min a x) xs)

pub least-below-each : (a : ℕ) (xs : List ℕ) → All (λ x. least_below a xs ≤ x) (a ∷ xs)
least-below-each a xs zero d low = least-below-first a xs
least-below-each a [] (suc k) d low = absurd (omega (arith, low))
least-below-each a (x ∷ xs) (suc zero) d low = omega (arith, least-below-first (min a x) xs)
least-below-each a (x ∷ xs) (suc (suc k)) d low = least-below-each (min a x) xs (suc k) d (omega (arith, low))

-- an element of a list that begins with the lesser of two numbers is one of the list that begins with both
lesser-of : (a x v : ℕ) (xs : List ℕ) (k : ℕ) → k < length (min a x ∷ xs) → slice_index_or (min a x ∷ xs) k v ≡ v →
    Contains (a ∷ x ∷ xs) v
lesser-of a x v xs zero low is = elim (cases_lt x a) [
  | inl below ↦ (1, omega arith, omega (arith, is, below))
  | inr above ↦ (0, omega arith, omega (arith, is, above))
]
lesser-of a x v xs (suc k) low is = (suc (suc k), omega (arith, low), is)

pub least-below-one : (a : ℕ) (xs : List ℕ) → Contains (a ∷ xs) (least_below a xs)
least-below-one a [] = (0, omega arith, refl)
least-below-one a (x ∷ xs) =
    let in' = least-below-one (min a x) xs in
    lesser-of a x (least_below (min a x) xs) xs in'.0 in'.1 in'.2

least-below-is : (c x : ℕ) (xs : List ℕ) → least_below c (x ∷ xs) ≡ min c (least (x ∷ xs))
least-below-is c x [] = refl
least-below-is c x (y ∷ ys) = omega (arith, least-below-is (min c x) y ys)

-- the least of the lesser of two numbers and of others
least-min : (b x : ℕ) (xs : List ℕ) → least (min b x ∷ xs) ≡ min b (least (x ∷ xs))
least-min b x [] = refl
least-min b x (y ∷ ys) = omega arith

-- the least of some numbers and of two more, the lesser one first
least-two : (a b : ℕ) (xs : List ℕ) → a ≤ b → least (a ∷ b ∷ xs) ≡ least_below a xs
least-two a b [] ordered = omega (arith, ordered)
least-two a b (x ∷ xs) ordered = omega (arith, ordered, least-below-is a x xs)

-- the second least, where the first number is the least of all
second-above : (a b : ℕ) (xs : List ℕ) → a ≤ b → a ≡ least_below a xs → second_below a b xs ≡ least (b ∷ xs)
second-above a b [] ordered low = refl
second-above a b (x ∷ xs) ordered low =
    let first : min a x ≡ a = omega (arith, low, least-below-first (min a x) xs) in
    let second : min b (max a x) ≡ min b x = omega (arith, first) in
    second-above (min a x) (min b (max a x)) xs (omega (arith, ordered)) (omega (arith, first, low))
    ∙ ap (λ n. least (n ∷ xs)) second
    ∙ least-min b x xs

pub second-is-second : (first second one : ℕ) (numbers before after : List ℕ) → first ≤ second →
    before ++ one ∷ after ≡ first ∷ second ∷ numbers → one ≡ least_below first numbers →
    second_below first second numbers ≡ least (before ++ after)
second-is-second first second one numbers [] after ordered all low =
    let e : one ∷ after ≡ first ∷ second ∷ numbers = all in
    let head : one ≡ first = cc in
    let rest : second ∷ numbers ≡ after = cc in
    second-above first second numbers ordered (sym head ∙ low) ∙ ap least rest
second-is-second first second one numbers (u ∷ []) after ordered all low =
    let e : u ∷ one ∷ after ≡ first ∷ second ∷ numbers = all in
    let head : one ≡ second = cc in
    let same : first ≡ second = omega (arith, head, low, ordered, least-below-first first numbers) in
    let rest : second ∷ numbers ≡ u ∷ after = cc in
    second-above first second numbers ordered (same ∙ sym head ∙ low) ∙ ap least rest
second-is-second first second one numbers (u ∷ w ∷ us) after ordered all low =
    let e : u ∷ w ∷ (us ++ one ∷ after) ≡ first ∷ second ∷ numbers = all in
    let rest : numbers ≡ us ++ one ∷ after = cc in
    let same : first ∷ second ∷ (us ++ after) ≡ u ∷ w ∷ (us ++ after) = cc in
    ap (second_below first second) rest
    ∙ sym ((without-one one first second us after ordered).0 (low ∙ ap (least_below first) rest))
    ∙ sym (least-two first second (us ++ after) ordered)
    ∙ ap least same

pub least-le-first : (x : ℕ) (xs : List ℕ) → least (x ∷ xs) ≤ x
least-le-first x [] = omega arith
least-le-first x (y ∷ ys) = omega arith

-- where each number is below the cap, it takes no part
pub least-below-cap : (c m : ℕ) (f : ℕ → ℕ) (jobs : List ℕ) → 0 < length jobs → ((job : ℕ) → f job ≤ m) → m ≤ c →
    (least_below c (map f jobs) ≡ least (map f jobs)) × (least (map f jobs) ≤ m)
least-below-cap c m f [] some small fits = absurd (omega (arith, some))
least-below-cap c m f (job ∷ jobs) some small fits =
    let first = least-le-first (f job) (map f jobs) in
    (omega (arith, least-below-is c (f job) (map f jobs), first, small job, fits), omega (arith, first, small job))

-- the two least of some numbers and of one more behind them
pub least-push : (a : ℕ) (xs : List ℕ) (x : ℕ) → least_below a (xs ++ x ∷ []) ≡ min (least_below a xs) x
least-push a [] x = refl
least-push a (y ∷ ys) x = least-push (min a y) ys x

pub second-push : (a b : ℕ) (xs : List ℕ) (x : ℕ) →
    second_below a b (xs ++ x ∷ []) ≡ min (second_below a b xs) (max (least_below a xs) x)
second-push a b [] x = refl
second-push a b (y ∷ ys) x = second-push (min a y) (min b (max a y)) ys x
