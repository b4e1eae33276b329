-- What is counted along an order, where a place of it is searched.
use Rattle.std.proofs.Common.{◌≡◌, ℕ, ◌+◌, ◌≤◌, ◌⊎◌, inl, inr, Bool, true, false, cond, List, [], ◌∷◌, ◌++◌, length}
use Rattle.std.proofs.Common.{refl, ap, sym, ◌∙◌, subst, arith, sum_by, eqb}
use Rattle.std.proofs.lemmas.Bool.{eqb-true}
use Rattle.std.proofs.lemmas.List.Sums.{sum_by-cons}
use Rattle.std.specs.List.{AllByRecursion}
use Rattle.flow_parts.specs.declared.place.Place.{Place}
use Rattle.flow_parts.specs.Orders.{IsLinked, is_open, settled_in, first_open_in, reached_in, EndsWhereReached}
use Rattle.flow_parts.proofs.Numbers.{no-end}

-- a test that came out or did not
pub tested : (b : Bool) → (b ≡ true) ⊎ (b ≡ false)
tested true = inl refl
tested false = inr refl

-- the sum of what is the same at each
pub sum-kept : (f g : ℕ → ℕ) (xs : List ℕ) → AllByRecursion (λ q. g q ≡ f q) xs → sum_by g xs ≡ sum_by f xs
sum-kept f g [] same = refl
sum-kept f g (x ∷ xs) same =
    omega (arith, same.0, sum-kept f g xs same.1, sum_by-cons f x xs, sum_by-cons g x xs)

module _ (at at' : ℕ → Place) where
  -- whether something stands behind a place that was reached
  pub ends-with : (xs : List ℕ) (p : ℕ) (ys zs : List ℕ) → EndsWhereReached at (xs ++ p ∷ ys) →
      AllByRecursion (λ q. at' q ≡ at q) xs → EndsWhereReached at' (p ∷ zs) → EndsWhereReached at' (xs ++ p ∷ zs)
  ends-with [] p ys zs ends same rest = rest
  ends-with (x ∷ xs) p ys zs ends same rest = (
    (λ is. absurd (no-end xs p ys (ends.0 (sym (ap (λ place. place.state) same.0) ∙ is)))),
    ends-with xs p ys zs ends.1 same.1 rest,
  )

  -- the place that was reached is none of those before another one
  pub reached-with : (xs : List ℕ) (p : ℕ) (ys zs : List ℕ) → EndsWhereReached at (xs ++ p ∷ ys) →
      AllByRecursion (λ q. at' q ≡ at q) xs → reached_in at' (xs ++ p ∷ zs) ≡ reached_in at' (p ∷ zs)
  reached-with [] p ys zs ends same = refl
  reached-with (x ∷ xs) p ys zs ends same = elim (tested (eqb (at' x).state 3)) [
    | inl is ↦ absurd (no-end xs p ys (ends.0 (sym (ap (λ place. place.state) same.0) ∙ eqb-true (at' x).state 3 is)))
    | inr not ↦ ap (λ b. cond b (x + 1) (reached_in at' (xs ++ p ∷ zs))) not ∙ reached-with xs p ys zs ends.1 same.1
  ]

  -- from the first place on that was open before, the walk to the first one that is open now
  pub settled-with : (link : ℕ → ℕ) (start : ℕ) (xs : List ℕ) (p : ℕ) (ys zs : List ℕ) → is_open (at p) ≡ true →
      AllByRecursion (λ q. at' q ≡ at q) xs → IsLinked link start (xs ++ p ∷ zs) →
      (rest : List ℕ) × IsLinked link (first_open_in at (xs ++ p ∷ ys)) rest
      × (settled_in at (xs ++ p ∷ ys) + settled_in at' rest ≡ settled_in at' (xs ++ p ∷ zs))
      × (first_open_in at' rest ≡ first_open_in at' (xs ++ p ∷ zs)) × (length rest ≤ length (xs ++ p ∷ zs))
  settled-with link start [] p ys zs opened same linked = (
    p ∷ zs,
    (ap (λ b. cond b (p + 1) (first_open_in at ys)) opened, linked.1),
    ap (λ b. cond b 0 ((at p).written + settled_in at ys) + settled_in at' (p ∷ zs)) opened ∙ omega arith,
    refl,
    omega arith,
  )
  settled-with link start (x ∷ xs) p ys zs opened same linked = elim (tested (is_open (at x))) [
    | inl is ↦ (
      x ∷ (xs ++ p ∷ zs),
      (ap (λ b. cond b (x + 1) (first_open_in at (xs ++ p ∷ ys))) is, linked.1),
      ap (λ b. cond b 0 ((at x).written + settled_in at (xs ++ p ∷ ys)) + settled_in at' (x ∷ (xs ++ p ∷ zs))) is
          ∙ omega arith,
      refl,
      omega arith,
    )
    | inr not ↦
        let more = settled-with link (link x) xs p ys zs opened same.1 linked.1 in
        let now : is_open (at' x) ≡ false = ap is_open same.0 ∙ not in
        let written : (at' x).written ≡ (at x).written = ap (λ place. place.written) same.0 in (
          more.0,
          subst (λ n. IsLinked link n more.0)
              (sym (ap (λ b. cond b (x + 1) (first_open_in at (xs ++ p ∷ ys))) not)) more.1,
          (let old = ap (λ b. cond b 0 ((at x).written + settled_in at (xs ++ p ∷ ys))) not in
              let new = ap (λ b. cond b 0 ((at' x).written + settled_in at' (xs ++ p ∷ zs))) now in
              omega (arith, old, new, more.2, written)),
          more.3 ∙ sym (ap (λ b. cond b (x + 1) (first_open_in at' (xs ++ p ∷ zs))) now),
          omega (arith, more.4),
        )
  ]
