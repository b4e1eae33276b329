-- The numbers from one to another, and the greatest value over them.
use Rattle.std.proofs.Common.{◌≡◌, ℕ, zero, suc, ◌+◌, ◌-◌, ◌≤◌, max, List, [], ◌∷◌, ◌++◌, map, ap, sym, ◌∙◌, arith}
use Rattle.std.specs.List.{range_with_len}
use Rattle.flow_shop.specs.Shop.{numbers}
use Rattle.flow_shop.specs.Least.{greatest}
use Rattle.flow_shop.proofs.Extremes.{greatest-append, greatest-range-le, map-map-append, range-le-greatest}
use Rattle.flow_shop.proofs.JobsLeft.{numbers-more}

-- the first of them
pub numbers-first : (k n : ℕ) → k ≤ n → numbers k n ≡ k ∷ numbers (k + 1) n
numbers-first k n high =
    let some : n + 1 - k ≡ suc (n - k) = omega arith in
    let rest : n - k ≡ n + 1 - (k + 1) = omega arith in
    ap (range_with_len k) some ∙ ap (λ c. k ∷ range_with_len (k + 1) c) rest

-- the last of them
pub numbers-step : (k : ℕ) → 1 ≤ k → numbers 1 (k + 1 - 1) ≡ numbers 1 (k - 1) ++ k ∷ []
numbers-step zero low = absurd (omega arith)
numbers-step (suc n) low =
    let next : suc n + 1 - 1 ≡ suc n = omega arith in
    let e : n ≡ suc n - 1 = omega arith in
    ap (numbers 1) next ∙ numbers-more n ∙ ap (λ i. numbers 1 i ++ suc n ∷ []) e

greatest-push : (xs : List ℕ) (x : ℕ) → greatest (xs ++ x ∷ []) ≡ max (greatest xs) x
greatest-push xs x = omega (arith, greatest-append xs (x ∷ []))

-- the greatest value up to a number, from that up to the one before
pub greatest-step : (f : ℕ → ℕ) (k : ℕ) → 1 ≤ k →
    greatest (map f (numbers 1 (k + 1 - 1))) ≡ max (greatest (map f (numbers 1 (k - 1)))) (f k)
greatest-step f k low =
    ap (λ xs. greatest (map f xs)) (numbers-step k low)
    ∙ ap greatest (map-map-append f (numbers 1 (k - 1)) (k ∷ []))
    ∙ greatest-push (map f (numbers 1 (k - 1))) (f k)

-- and from it that up to the next
pub greatest-next : (f : ℕ → ℕ) (n : ℕ) →
    greatest (map f (numbers 1 (n + 1))) ≡ max (greatest (map f (numbers 1 n))) (f (n + 1))
greatest-next f n =
    let more : n + 1 ≡ n + 1 + 1 - 1 = omega arith in
    let less : n + 1 - 1 ≡ n = omega arith in
    ap (λ i. greatest (map f (numbers 1 i))) more
    ∙ greatest-step f (n + 1) (omega arith)
    ∙ ap (λ i. max (greatest (map f (numbers 1 i))) (f (n + 1))) less

-- values that are the same have the same greatest
pub greatest-le : (f g : ℕ → ℕ) (n : ℕ) → ((k : ℕ) → 1 ≤ k → k ≤ n → f k ≡ g k) →
    greatest (map f (numbers 1 n)) ≤ greatest (map g (numbers 1 n))
greatest-le f g n same =
    greatest-range-le f 1 (n + 1 - 1) (greatest (map g (numbers 1 n)))
    (λ k low high. omega (arith, same k low (omega arith), range-le-greatest g 1 (n + 1 - 1) k low high))

pub greatest-same : (f g : ℕ → ℕ) (n : ℕ) → ((k : ℕ) → 1 ≤ k → k ≤ n → f k ≡ g k) →
    greatest (map f (numbers 1 n)) ≡ greatest (map g (numbers 1 n))
greatest-same f g n same =
    omega (arith, greatest-le f g n same, greatest-le g f n (λ k low high. sym (same k low high)))
