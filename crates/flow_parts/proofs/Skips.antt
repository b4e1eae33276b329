-- Skips over places that were searched.
use Rattle.std.proofs.Common.{◌≡◌, ◌≢◌, ℕ, ◌+◌, ◌⊎◌, inl, inr, List, [], ◌∷◌, ◌++◌, refl, ap, sym, ◌∙◌, subst}
use Rattle.std.specs.List.{AllByRecursion}
use Rattle.flow_parts.specs.declared.place.Place.{Place}
use Rattle.flow_parts.specs.Orders.{AreSkipped, SkipsSearched, IsSameButSkip}
use Rattle.flow_parts.proofs.Numbers.{one-first, all-weaker}

-- a place of which only the skip is another
pub skip-set : (old new : Place) (skip : ℕ) → new ≡ record old { skip = skip } → new ≡ record old { skip = new.skip }
skip-set old new skip is = is ∙ ap (λ n. record old { skip = n }) (sym (ap (λ place. place.skip) is))

module _ (xs : List ℕ) (at at' : ℕ → Place) (q : ℕ) where
  -- what skips do not change
  pub same-by : (X : Type 0) (f : Place → X) → ((place : Place) (n : ℕ) → f (record place { skip = n }) ≡ f place) →
      IsSameButSkip xs at at' q → f (at' q) ≡ f (at q)
  same-by X f still (inl is) = ap f is
  same-by X f still (inr other) = ap f other.2 ∙ still (at q) (at' q).skip

  pub same-state : IsSameButSkip xs at at' q → (at' q).state ≡ (at q).state
  same-state same = same-by ℕ (λ place. place.state) (λ place n. refl) same

  pub same-next : IsSameButSkip xs at at' q → (at' q).next ≡ (at q).next
  same-next same = same-by ℕ (λ place. place.next) (λ place n. refl) same

  -- the place, but for its skip
  pub same-place : IsSameButSkip xs at at' q → at' q ≡ record (at q) { skip = (at' q).skip }
  same-place (inl is) = skip-set (at q) (at' q) (at q).skip is
  same-place (inr other) = other.2

  -- one that was not searched
  pub same-open : (at q).state ≢ 2 → IsSameButSkip xs at at' q → at' q ≡ at q
  same-open not (inl is) = is
  same-open not (inr other) = absurd (not other.1)

  -- more places were passed
  pub same-more : (ys : List ℕ) → IsSameButSkip xs at at' q → IsSameButSkip (xs ++ ys) at at' q
  same-more ys (inl is) = inl is
  same-more ys (inr other) = inr (one-first q xs ys other.0, other.1, other.2)

-- a place that is as it was after a change
pub same-again : (xs : List ℕ) (at at' at'' : ℕ → Place) (q : ℕ) → at'' q ≡ at' q → IsSameButSkip xs at at' q →
    IsSameButSkip xs at at'' q
same-again xs at at' at'' q still (inl is) = inl (still ∙ is)
same-again xs at at' at'' q still (inr other) =
    inr (other.0, other.1, skip-set (at q) (at'' q) (at' q).skip (still ∙ other.2))

module _ (at at' : ℕ → Place) where
  -- these places are still searched, where they were
  abbrev pub AreStill : List ℕ → Type 0
  AreStill xs = AllByRecursion (λ q. (at q).state ≡ 2 → (at' q).state ≡ 2) xs

  -- these skip what they did
  abbrev pub SkipAlike : List ℕ → Type 0
  SkipAlike xs = AllByRecursion (λ q. (at' q).skip ≡ (at q).skip) xs

  skipped-kept : (xs : List ℕ) (link : ℕ) → AreStill xs → AreSkipped at xs link → AreSkipped at' xs link
  skipped-kept [] link still skipped = absurd skipped
  skipped-kept (x ∷ xs) link still skipped = (
    still.0 skipped.0,
    elim skipped.1 [
      | inl is ↦ inl is
      | inr more ↦ inr (skipped-kept xs link still.1 more)
    ],
  )

  -- a skip that is the same
  pub skip-kept : (x : ℕ) (xs : List ℕ) → AreStill (x ∷ xs) → (at' x).skip ≡ (at x).skip →
      ((at x).skip ≡ 0) ⊎ (((at x).state ≡ 2) × AreSkipped at xs (at x).skip) →
      ((at' x).skip ≡ 0) ⊎ (((at' x).state ≡ 2) × AreSkipped at' xs (at' x).skip)
  skip-kept x xs still same (inl none) = inl (same ∙ none)
  skip-kept x xs still same (inr skips) = inr (
    still.0 skips.0,
    subst (AreSkipped at' xs) (sym same) (skipped-kept xs (at x).skip still.1 skips.1),
  )

  pub skips-kept : (xs : List ℕ) → AreStill xs → SkipAlike xs → SkipsSearched at xs → SkipsSearched at' xs
  skips-kept [] still same skips = tt
  skips-kept (x ∷ xs) still same skips =
      (skip-kept x xs still same.0 skips.0, skips-kept xs still.1 same.1 skips.1)

  -- places that are as they were
  pub skips-same : (xs : List ℕ) → AllByRecursion (λ q. at' q ≡ at q) xs → SkipsSearched at xs → SkipsSearched at' xs
  skips-same xs same skips =
      skips-kept xs
      (all-weaker (λ q. at' q ≡ at q) (λ q. (at q).state ≡ 2 → (at' q).state ≡ 2) xs
      (λ q is searched. ap (λ place. place.state) is ∙ searched) same)
      (all-weaker (λ q. at' q ≡ at q) (λ q. (at' q).skip ≡ (at q).skip) xs (λ q is. ap (λ place. place.skip) is) same)
      skips

  -- one place skips others than before
  pub skips-at : (xs : List ℕ) (p : ℕ) (ys : List ℕ) → AreStill (xs ++ p ∷ ys) → SkipAlike xs → SkipAlike ys →
      ((at' p).skip ≡ 0) ⊎ (((at' p).state ≡ 2) × AreSkipped at' ys (at' p).skip) → SkipsSearched at (xs ++ p ∷ ys) →
      SkipsSearched at' (xs ++ p ∷ ys)
  skips-at [] p ys still same rest here skips = (here, skips-kept ys still.1 rest skips.1)
  skips-at (x ∷ xs) p ys still same rest here skips = (
    skip-kept x (xs ++ p ∷ ys) still same.0 skips.0,
    skips-at xs p ys still.1 same.1 rest here skips.1,
  )

  -- no skip leads past a place that was not searched
  skipped-before : (xs : List ℕ) (p : ℕ) (ys zs : List ℕ) (link : ℕ) → (at p).state ≢ 2 →
      AllByRecursion (λ q. at' q ≡ at q) xs → AreSkipped at (xs ++ p ∷ ys) link → AreSkipped at' (xs ++ p ∷ zs) link
  skipped-before [] p ys zs link not same skipped = absurd (not skipped.0)
  skipped-before (x ∷ xs) p ys zs link not same skipped = (
    ap (λ place. place.state) same.0 ∙ skipped.0,
    elim skipped.1 [
      | inl is ↦ inl is
      | inr more ↦ inr (skipped-before xs p ys zs link not same.1 more)
    ],
  )

  -- another list behind such a place
  pub skips-with : (xs : List ℕ) (p : ℕ) (ys zs : List ℕ) → (at p).state ≢ 2 → AllByRecursion (λ q. at' q ≡ at q) xs →
      SkipsSearched at' (p ∷ zs) → SkipsSearched at (xs ++ p ∷ ys) → SkipsSearched at' (xs ++ p ∷ zs)
  skips-with [] p ys zs not same rest skips = rest
  skips-with (x ∷ xs) p ys zs not same rest skips = (
    elim skips.0 [
      | inl none ↦ inl (ap (λ place. place.skip) same.0 ∙ none)
      | inr skipped ↦ inr (
        ap (λ place. place.state) same.0 ∙ skipped.0,
        subst (AreSkipped at' (xs ++ p ∷ zs)) (sym (ap (λ place. place.skip) same.0))
            (skipped-before xs p ys zs (at x).skip not same.1 skipped.1),
      )
    ],
    skips-with xs p ys zs not same.1 rest skips.1,
  )

module _ (at : ℕ → Place) where
  pub skips-rest : (xs ys : List ℕ) → SkipsSearched at (xs ++ ys) → SkipsSearched at ys
  skips-rest [] ys skips = skips
  skips-rest (x ∷ xs) ys skips = skips-rest xs ys skips.1

  -- places that skip none
  pub skips-none : (xs ys : List ℕ) → AllByRecursion (λ q. (at q).skip ≡ 0) xs → SkipsSearched at ys →
      SkipsSearched at (xs ++ ys)
  skips-none [] ys none skips = skips
  skips-none (x ∷ xs) ys none skips = (inl none.0, skips-none xs ys none.1 skips)

  -- past searched places to another one
  pub skipped-to : (xs : List ℕ) (p : ℕ) (ys : List ℕ) → AllByRecursion (λ q. (at q).state ≡ 2) xs →
      (at p).state ≡ 2 → AreSkipped at (xs ++ p ∷ ys) (p + 1)
  skipped-to [] p ys searched is = (is, inl refl)
  skipped-to (x ∷ xs) p ys searched is = (searched.0, inr (skipped-to xs p ys searched.1 is))

  -- which places are skipped
  pub skipped-split : (xs : List ℕ) (link : ℕ) → AreSkipped at xs link →
      (between : List ℕ) × (p : ℕ) × (behind : List ℕ) × (xs ≡ between ++ p ∷ behind) × (link ≡ p + 1)
      × AllByRecursion (λ q. (at q).state ≡ 2) between
  skipped-split [] link skipped = absurd skipped
  skipped-split (x ∷ xs) link skipped = elim skipped.1 [
    | inl is ↦ ([], x, xs, refl, is, tt)
    | inr more ↦
        let rest = skipped-split xs link more in
        (x ∷ rest.0, rest.1, rest.2, ap (λ ys. x ∷ ys) rest.3, rest.4, (skipped.0, rest.5))
  ]
