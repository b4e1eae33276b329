-- What is found in a list, and what holds of its members.
use Rattle.std.proofs.Common.{◌≡◌, ◌≢◌, ℕ, ◌+◌, ◌-◌, ◌<◌, ◌≤◌, Bool, true, false, ◌||◌, nat_eq, List, [], ◌∷◌, ◌++◌}
use Rattle.std.proofs.Common.{length}
use Rattle.std.proofs.Common.{drop, reverse, slice_index, set, Some, refl, ap, sym, subst, ◌∙◌, inl, inr, arith}
use Rattle.std.specs.List.{find, AllByRecursion, AllZip}
use Rattle.std.proofs.lemmas.Bool.{cond-true, cond-false, cases_Bool, cases_lt, eqb-true, false≢true, eq-eqb, or_left}
use Rattle.std.proofs.lemmas.Bool.Decides.{nat_tests}
use Rattle.std.proofs.lemmas.List.{drop_more, get_or-set_same, get_or-set_other, reverse-append}
use Rattle.flow_shop.specs.Sequences.{has}

-- a list has its first number
pub has-first : (x : ℕ) (xs : List ℕ) → has (x ∷ xs) x ≡ true
has-first x xs = or_left (nat_eq x x) (has xs x) (eq-eqb x x refl)

-- a list that is not empty has a member
pub some-of : {X : Type 0} (xs : List X) → 0 < length xs → X
some-of [] low = absurd (omega arith)
some-of (x ∷ xs) low = x

-- what is left of a list from a place on, counted from 1: the number there, and what is left behind it
pub drop-at : (xs : List ℕ) (place : ℕ) → 1 ≤ place → place ≤ length xs →
    drop (place - 1) xs ≡ slice_index xs (place - 1) ∷ drop place xs
drop-at xs place low high =
    let here : place - 1 + 1 ≡ place = omega arith in
    drop_more xs (place - 1) 0 (omega arith) ∙ ap (λ k. slice_index xs (place - 1) ∷ drop k xs) here

-- a longer list, turned
pub reverse-push : {X : Type 0} (xs new : List X) (x : X) → new ≡ xs ++ x ∷ [] → reverse new ≡ x ∷ reverse xs
reverse-push xs new x e = ap reverse e ∙ reverse-append xs (x ∷ [])

-- that two numbers differ can be said either way round
pub not_eq-sym : (a b : ℕ) → nat_eq a b ≡ false → nat_eq b a ≡ false
not_eq-sym a b h = grind (arith, nat_tests)

-- what holds of each member holds of one in the middle
pub all-at : {X : Type 0} (P : X → Type 0) (xs : List X) (x : X) (ys : List X) → AllByRecursion P (xs ++ x ∷ ys) → P x
all-at P [] x ys h = h.0
all-at P (z ∷ xs) x ys h = all-at P xs x ys h.1

pub find-some : {X : Type 0} (p : X → Bool) (R : X → Type 0) (xs : List X) (x : X) → AllByRecursion R xs →
    find p xs ≡ Some x → (p x ≡ true) × R x
find-some p R [] x h e = absurd (cc)
find-some {X} p R (y ∷ ys) x h e = elim (cases_Bool (p y)) [
  | inl pass ↦ let same : Some y ≡ Some x = sym (cond-true (p y) (Some y) (find p ys) pass) ∙ e in
      let eq : y ≡ x = cc in
      (sym (ap p eq) ∙ pass, subst R eq h.0)
  | inr fail ↦ find-some p R ys x h.1 (sym (cond-false (p y) (Some y) (find p ys) fail) ∙ e)
]

-- what holds of each member holds of a number that the list has
pub all-has : (P : ℕ → Type 0) (xs : List ℕ) (k : ℕ) → AllByRecursion P xs → has xs k ≡ true → P k
all-has P [] k all found = absurd (false≢true found)
all-has P (x ∷ xs) k all found = elim (cases_Bool (nat_eq k x)) [
  | inl same ↦ subst P (sym (eqb-true k x same)) all.0
  | inr other ↦ all-has P xs k all.1 (sym (ap (λ b. b || has xs k) other) ∙ found)
]

-- each number that a list has goes with a member of the other list
pub zip-at : {B : Type 0} (R : ℕ → B → Type 0) (xs : List ℕ) (ys : List B) (j : ℕ) → AllZip R xs ys → has xs j ≡ true →
    (y : B) × R j y
zip-at R [] ys j z h = absurd (false≢true h)
zip-at R (x ∷ xs) [] j z h = absurd z
zip-at {B} R (x ∷ xs) (y ∷ ys) j z h = elim (cases_Bool (nat_eq j x)) [
  | inl same ↦ (y, subst (λ k. R k y) (sym (eqb-true j x same)) z.0)
  | inr other ↦ zip-at R xs ys j z.1 (sym (ap (λ b. b || has xs j) other) ∙ h)
]

-- one more member
pub all-push : (P : ℕ → Type 0) (xs : List ℕ) (x : ℕ) → AllByRecursion P xs → P x → AllByRecursion P (xs ++ x ∷ [])
all-push P [] x all here = (here, tt)
all-push P (y ∷ ys) x all here = (all.0, all-push P ys x all.1 here)

-- one more place of a table
pub filled-more : (P : ℕ → ℕ → Type 0) (xs : List ℕ) (machine value : ℕ) → 1 ≤ machine → machine - 1 < length xs →
    P machine value → ((k : ℕ) → 1 ≤ k → k < machine → P k (slice_index xs (k - 1))) → (k : ℕ) → 1 ≤ k →
    k < machine + 1 → P k (slice_index (set xs (machine - 1) value) (k - 1))
filled-more P xs machine value from within here before k low high =
    elim (cases_lt k machine) [
      | inl below ↦
          let other : k - 1 ≢ machine - 1 = omega arith in
          subst (P k) (sym (get_or-set_other xs (machine - 1) (k - 1) value 0 other)) (before k low below)
      | inr above ↦
          let e : machine ≡ k = omega arith in
          let there : slice_index (set xs (machine - 1) value) (k - 1) ≡ value =
          ap (λ i. slice_index (set xs (machine - 1) value) (i - 1)) (sym e)
          ∙ get_or-set_same xs (machine - 1) value 0 within in
          subst (P k) (sym there) (subst (λ i. P i value) e here)
    ]
