-- The greatest and the least value over a range of numbers.
use Rattle.std.proofs.Common.{◌≡◌, ℕ, zero, suc, ◌+◌, ◌<◌, ◌≤◌, max, List, [], ◌∷◌, ◌++◌, map, refl, ap, ◌∙◌, inl, inr}
use Rattle.std.proofs.Common.{arith}
use Rattle.std.specs.List.{flat_map, range_with_len}
use Rattle.std.proofs.lemmas.Bool.{cases_lt}
use Rattle.flow_shop.specs.Least.{greatest}

pub greatest-append : (xs ys : List ℕ) → greatest (xs ++ ys) ≡ max (greatest xs) (greatest ys)
greatest-append [] ys = omega arith
greatest-append (x ∷ xs) ys = omega (arith, greatest-append xs ys)

pub map-map-append : {X : Type 0} (f : X → ℕ) (xs ys : List X) → map f (xs ++ ys) ≡ map f xs ++ map f ys
map-map-append f [] ys = refl
map-map-append f (x ∷ xs) ys = ap (λ zs. f x ∷ zs) (map-map-append f xs ys)

pub greatest-flat_map : {X A : Type 0} (value : A → ℕ) (g : X → List A) (xs : List X) →
    greatest (map value (flat_map g xs)) ≡ greatest (map (λ x. greatest (map value (g x))) xs)
greatest-flat_map value g [] = refl
greatest-flat_map value g (x ∷ xs) =
    ap greatest (map-map-append value (g x) (flat_map g xs))
    ∙ greatest-append (map value (g x)) (map value (flat_map g xs))
    ∙ ap (λ n. max (greatest (map value (g x))) n) (greatest-flat_map value g xs)

pub map-map : {X A : Type 0} (f : A → ℕ) (g : X → A) (xs : List X) → map f (map g xs) ≡ map (λ x. f (g x)) xs
map-map f g [] = refl
map-map f g (x ∷ xs) = ap (λ zs. f (g x) ∷ zs) (map-map f g xs)

-- the greatest over a range of numbers is above the value at each
pub range-le-greatest : (value : ℕ → ℕ) (a n b : ℕ) → a ≤ b → b < a + n →
    value b ≤ greatest (map value (range_with_len a n))
range-le-greatest value a zero b low high = absurd (omega arith)
range-le-greatest value a (suc n) b low high =
    elim (cases_lt a b) [
      | inl above ↦ let ih : value b ≤ greatest (map value (range_with_len (a + 1) n)) =
          range-le-greatest value (a + 1) n b (omega arith) (omega arith) in omega arith
      | inr same ↦ let e : a ≡ b = omega arith in let f : value a ≡ value b = ap value e in omega arith
    ]

-- and below each bound on them
pub greatest-range-le : (value : ℕ → ℕ) (a n bound : ℕ) → ((b : ℕ) → a ≤ b → b < a + n → value b ≤ bound) →
    greatest (map value (range_with_len a n)) ≤ bound
greatest-range-le value a zero bound h = omega arith
greatest-range-le value a (suc n) bound h =
    let ih : greatest (map value (range_with_len (a + 1) n)) ≤ bound =
    greatest-range-le value (a + 1) n bound (λ b low high. h b (omega arith) (omega arith)) in
    let here : value a ≤ bound = h a (omega arith) (omega arith) in
    omega arith
