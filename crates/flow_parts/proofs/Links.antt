-- Places one behind the other.
use Rattle.std.proofs.Common.{◌≡◌, ◌≢◌, ℕ, ◌≤◌, List, [], ◌∷◌, ◌++◌, length, refl, ap, sym, ◌∙◌, subst, arith}
use Rattle.std.proofs.Common.{length-append}
use Rattle.std.specs.List.{AllByRecursion}
use Rattle.flow_parts.specs.Orders.{IsLinked, link_to}

-- there is one list from a start on
pub linked-same : (link : ℕ → ℕ) (start : ℕ) (xs ys : List ℕ) → IsLinked link start xs → IsLinked link start ys →
    xs ≡ ys
linked-same link start [] [] a b = refl
linked-same link start [] (y ∷ ys) a b = absurd (omega (arith, a, b.0))
linked-same link start (x ∷ xs) [] a b = absurd (omega (arith, a.0, b))
linked-same link start (x ∷ xs) (y ∷ ys) a b =
    let same : x ≡ y = omega (arith, a.0, b.0) in
    ap (λ n. n ∷ xs) same
    ∙ ap (λ zs. y ∷ zs) (linked-same link (link y) xs ys (subst (λ n. IsLinked link (link n) xs) same a.1) b.1)

-- the start is the link to the first place
pub linked-start : (link : ℕ → ℕ) (start : ℕ) (xs : List ℕ) → IsLinked link start xs → start ≡ link_to xs
linked-start link start [] linked = linked
linked-start link start (x ∷ xs) linked = linked.0

-- what stands behind a place
pub linked-rest : (link : ℕ → ℕ) (start : ℕ) (xs : List ℕ) (p : ℕ) (ys : List ℕ) →
    IsLinked link start (xs ++ p ∷ ys) → IsLinked link (link p) ys
linked-rest link start [] p ys linked = linked.1
linked-rest link start (x ∷ xs) p ys linked = linked-rest link (link x) xs p ys linked.1

-- another list behind a place
pub linked-with : (link link' : ℕ → ℕ) (start : ℕ) (xs : List ℕ) (p : ℕ) (ys zs : List ℕ) →
    IsLinked link start (xs ++ p ∷ ys) → AllByRecursion (λ q. link' q ≡ link q) xs → IsLinked link' (link' p) zs →
    IsLinked link' start (xs ++ p ∷ zs)
linked-with link link' start [] p ys zs linked same rest = (linked.0, rest)
linked-with link link' start (x ∷ xs) p ys zs linked same rest = (
  linked.0,
  linked-with link link' (link' x) xs p ys zs
      (subst (λ n. IsLinked link n (xs ++ p ∷ ys)) (sym same.0) linked.1) same.1 rest,
)

-- the same list by another link
pub linked-kept : (link link' : ℕ → ℕ) (start : ℕ) (xs : List ℕ) → IsLinked link start xs →
    AllByRecursion (λ q. link' q ≡ link q) xs → IsLinked link' start xs
linked-kept link link' start [] linked same = linked
linked-kept link link' start (x ∷ xs) linked same = (
  linked.0,
  linked-kept link link' (link' x) xs
      (subst (λ n. IsLinked link n xs) (sym same.0) linked.1) same.1,
)

-- no place stands before itself
pub apart-first : (link : ℕ → ℕ) (start : ℕ) (xs : List ℕ) (p : ℕ) (ys : List ℕ) →
    IsLinked link start (xs ++ p ∷ ys) → AllByRecursion (λ q. q ≢ p) xs
apart-first link start [] p ys linked = tt
apart-first link start (x ∷ xs) p ys linked = (
  (λ is.
      let e : xs ++ p ∷ ys ≡ ys = linked-same link (link p) (xs ++ p ∷ ys) ys
      (subst (λ n. IsLinked link (link n) (xs ++ p ∷ ys)) is linked.1)
      (linked-rest link (link x) xs p ys linked.1) in
      omega (arith, ap length e, length-append xs (p ∷ ys))),
  apart-first link (link x) xs p ys linked.1,
)

-- no place stands in what is behind it
apart-short : (link : ℕ → ℕ) (start : ℕ) (xs : List ℕ) (p : ℕ) (ys : List ℕ) → IsLinked link start xs →
    IsLinked link (link p) ys → length xs ≤ length ys → AllByRecursion (λ q. q ≢ p) xs
apart-short link start [] p ys linked behind short = tt
apart-short link start (x ∷ xs) p ys linked behind short = (
  (λ is.
      let e : xs ≡ ys = linked-same link (link p) xs ys
      (subst (λ n. IsLinked link (link n) xs) is linked.1) behind in
      omega (arith, ap length e, short)),
  apart-short link (link x) xs p ys linked.1 behind (omega (arith, short)),
)

pub apart-rest : (link : ℕ → ℕ) (start : ℕ) (xs : List ℕ) (p : ℕ) (ys : List ℕ) →
    IsLinked link start (xs ++ p ∷ ys) → AllByRecursion (λ q. q ≢ p) ys
apart-rest link start xs p ys linked =
    let behind = linked-rest link start xs p ys linked in
    apart-short link (link p) ys p ys behind behind (omega arith)
