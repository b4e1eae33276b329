-- Lists of numbers.
use Rattle.std.proofs.Common.{◌≡◌, ℕ, zero, suc, ◌+◌, ◌<◌, ◌⊎◌, inl, inr, List, [], ◌∷◌, ◌++◌, refl, ap, sym, arith}
use Rattle.std.proofs.Common.{subst}
use Rattle.std.specs.List.{AllByRecursion, range_with_len}
use Rattle.flow_parts.specs.Orders.{IsOneOf}

pub all-first : (P : ℕ → Type 0) (xs ys : List ℕ) → AllByRecursion P (xs ++ ys) → AllByRecursion P xs
all-first P [] ys all = tt
all-first P (x ∷ xs) ys all = (all.0, all-first P xs ys all.1)

pub all-rest : (P : ℕ → Type 0) (xs ys : List ℕ) → AllByRecursion P (xs ++ ys) → AllByRecursion P ys
all-rest P [] ys all = all
all-rest P (x ∷ xs) ys all = all-rest P xs ys all.1

pub all-append : (P : ℕ → Type 0) (xs ys : List ℕ) → AllByRecursion P xs → AllByRecursion P ys →
    AllByRecursion P (xs ++ ys)
all-append P [] ys first rest = rest
all-append P (x ∷ xs) ys first rest = (first.0, all-append P xs ys first.1 rest)

pub all-one : (P : ℕ → Type 0) (xs : List ℕ) (n : ℕ) → AllByRecursion P xs → IsOneOf n xs → P n
all-one P [] n all one = absurd one
all-one P (x ∷ xs) n all (inl is) = subst P (sym is) all.0
all-one P (x ∷ xs) n all (inr one) = all-one P xs n all.1 one

pub all-each : (P : ℕ → Type 0) (xs : List ℕ) → ((n : ℕ) → IsOneOf n xs → P n) → AllByRecursion P xs
all-each P [] each = tt
all-each P (x ∷ xs) each = (each x (inl refl), all-each P xs (λ n one. each n (inr one)))

pub one-first : (n : ℕ) (xs ys : List ℕ) → IsOneOf n xs → IsOneOf n (xs ++ ys)
one-first n [] ys one = absurd one
one-first n (x ∷ xs) ys (inl is) = inl is
one-first n (x ∷ xs) ys (inr one) = inr (one-first n xs ys one)

pub one-rest : (n : ℕ) (xs ys : List ℕ) → IsOneOf n ys → IsOneOf n (xs ++ ys)
one-rest n [] ys one = one
one-rest n (x ∷ xs) ys one = inr (one-rest n xs ys one)

pub one-cases : (n : ℕ) (xs ys : List ℕ) → IsOneOf n (xs ++ ys) → IsOneOf n xs ⊎ IsOneOf n ys
one-cases n [] ys one = inr one
one-cases n (x ∷ xs) ys (inl is) = inl (inl is)
one-cases n (x ∷ xs) ys (inr one) = elim (one-cases n xs ys one) [ inl a ↦ inl (inr a) | inr b ↦ inr b ]

-- where a number is one of a list
pub one-split : (n : ℕ) (xs : List ℕ) → IsOneOf n xs →
    (first : List ℕ) × (behind : List ℕ) × (xs ≡ first ++ n ∷ behind)
one-split n [] one = absurd one
one-split n (x ∷ xs) (inl is) = ([], xs, ap (λ m. m ∷ xs) (sym is))
one-split n (x ∷ xs) (inr one) =
    let rest = one-split n xs one in
    (x ∷ rest.0, rest.1, ap (λ ys. x ∷ ys) rest.2)

pub no-end : (xs : List ℕ) (x : ℕ) (ys : List ℕ) → xs ++ x ∷ ys ≡ [] → ⊥
no-end [] x ys is = cc
no-end (z ∷ xs) x ys is = cc

-- what follows from two facts of each
pub all-both : (P Q R : ℕ → Type 0) (xs : List ℕ) → ((n : ℕ) → P n → Q n → R n) → AllByRecursion P xs →
    AllByRecursion Q xs → AllByRecursion R xs
all-both P Q R [] both p q = tt
all-both P Q R (x ∷ xs) both p q = (both x p.0 q.0, all-both P Q R xs both p.1 q.1)

-- what follows from one fact of each
pub all-weaker : (P R : ℕ → Type 0) (xs : List ℕ) → ((n : ℕ) → P n → R n) → AllByRecursion P xs → AllByRecursion R xs
all-weaker P R [] weaker p = tt
all-weaker P R (x ∷ xs) weaker p = (weaker x p.0, all-weaker P R xs weaker p.1)

-- numbers from one on are above a smaller one
pub range-above : (n m k : ℕ) → n < m → AllByRecursion (λ q. n < q) (range_with_len m k)
range-above n m zero less = tt
range-above n m (suc k) less = (less, range-above n (m + 1) k (omega (arith, less)))
