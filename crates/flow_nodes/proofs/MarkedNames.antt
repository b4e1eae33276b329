-- The names at the places that are marked, for marks that are given by a function of the place.
use Rattle.std.proofs.Common.{ℕ, zero, suc, ◌≡◌, ◌≢◌, ◌+◌, ◌<◌, ◌≤◌, ◌↔◌, Bool, true, cond, nat_eq, filter}
use Rattle.std.proofs.Common.{List, [], ◌∷◌, ◌++◌, length, slice_index, take, refl, sym, ap, ◌∙◌, inl, inr, arith}
use Rattle.std.proofs.lemmas.Bool.{cases_eq, cases_Bool, eq-eqb, ne_eqb, cond-true, cond-false, true≢false}

-- of some names, those whose place has the mark 1
abbrev pub kept : (ℕ → ℕ) → List ℕ → List ℕ
kept marks [] = []
kept marks (name ∷ names) =
    cond (nat_eq (marks 0) 1) (name ∷ kept (λ i. marks (suc i)) names) (kept (λ i. marks (suc i)) names)

module _ (marks : ℕ → ℕ) (name : ℕ) (names : List ℕ) where
  -- the first name is among them where its mark is 1
  pub kept-yes : marks 0 ≡ 1 → kept marks (name ∷ names) ≡ name ∷ kept (λ i. marks (suc i)) names
  kept-yes marked = cond-true _ _ _ (eq-eqb (marks 0) 1 marked)

  -- and else it is not
  pub kept-no : marks 0 ≢ 1 → kept marks (name ∷ names) ≡ kept (λ i. marks (suc i)) names
  kept-no unmarked = cond-false _ _ _ (ne_eqb (marks 0) 1 unmarked)

-- where the marks of the names' places agree, so do the lists
pub kept-same : (marks others : ℕ → ℕ) (names : List ℕ) →
    ((i : ℕ) → i < length names → marks i ≡ others i) → kept marks names ≡ kept others names
kept-same marks others [] same = refl
kept-same marks others (name ∷ names) same =
    let rest = kept-same (λ i. marks (suc i)) (λ i. others (suc i)) names (λ i low. same (suc i) (omega arith)) in
    let head : marks 0 ≡ others 0 = same 0 (omega arith) in
    ap (λ m. cond (nat_eq m 1) (name ∷ kept (λ i. marks (suc i)) names) (kept (λ i. marks (suc i)) names)) head
    ∙ ap (λ l. cond (nat_eq (others 0) 1) (name ∷ l) l) rest

-- where each place is marked that was marked before and whose name passes a test, the names are those that pass it
pub kept-filter : (p : ℕ → Bool) (old new : ℕ → ℕ) (names : List ℕ) →
    ((i : ℕ) → i < length names → (new i ≡ 1) ↔ ((old i ≡ 1) × (p (slice_index names i) ≡ true))) →
    kept new names ≡ filter p (kept old names)
kept-filter p old new [] exact = refl
kept-filter p old new (name ∷ names) exact =
    let rest = kept-filter p (λ i. old (suc i)) (λ i. new (suc i)) names (λ i low. exact (suc i) (omega arith)) in
    let head : (new 0 ≡ 1) ↔ ((old 0 ≡ 1) × (p name ≡ true)) = exact 0 (omega arith) in
    elim (cases_eq (old 0) 1) [
      | inl was ↦ elim (cases_Bool (p name)) [
        | inl passes ↦
            kept-yes new name names (head.1 (was, passes)) ∙ ap (λ l. name ∷ l) rest
            ∙ sym (cond-true (p name) (name ∷ filter p (kept (λ i. old (suc i)) names)) _ passes)
            ∙ sym (ap (filter p) (kept-yes old name names was))
        | inr fails ↦
            kept-no new name names (λ marked. true≢false (sym ((head.0 marked).1) ∙ fails)) ∙ rest
            ∙ sym (cond-false (p name) (name ∷ filter p (kept (λ i. old (suc i)) names)) _ fails)
            ∙ sym (ap (filter p) (kept-yes old name names was))
      ]
      | inr was_not ↦
          kept-no new name names (λ marked. was_not ((head.0 marked).0)) ∙ rest
          ∙ sym (ap (filter p) (kept-no old name names was_not))
    ]

-- where the mark of one place is taken away, its name goes from the names
pub kept-parted : (old new : ℕ → ℕ) (names : List ℕ) (place : ℕ) → place < length names →
    old place ≡ 1 → new place ≢ 1 → ((i : ℕ) → i < length names → i ≢ place → new i ≡ old i) →
    (before : List ℕ) × (behind : List ℕ)
    × (kept old names ≡ before ++ slice_index names place ∷ behind) × (kept new names ≡ before ++ behind)
kept-parted old new [] place within was is_not others = absurd (omega arith)
kept-parted old new (name ∷ names) zero within was is_not others = (
  [],
  kept (λ i. old (suc i)) names,
  kept-yes old name names was,
  kept-no new name names is_not
      ∙ kept-same (λ i. new (suc i)) (λ i. old (suc i)) names
      (λ i low. others (suc i) (omega arith) (λ e. omega arith)),
)
kept-parted old new (name ∷ names) (suc place) within was is_not others =
    let rest = kept-parted (λ i. old (suc i)) (λ i. new (suc i)) names place (omega arith) was is_not
    (λ i low apart. others (suc i) (omega arith) (λ e. apart (omega (arith, e)))) in
    let head : new 0 ≡ old 0 = others 0 (omega arith) (λ e. omega arith) in
    elim (cases_eq (old 0) 1) [
      | inl marked ↦ (
        name ∷ rest.0,
        rest.1,
        kept-yes old name names marked ∙ ap (λ l. name ∷ l) rest.2,
        kept-yes new name names (head ∙ marked) ∙ ap (λ l. name ∷ l) rest.3,
      )
      | inr unmarked ↦ (
        rest.0,
        rest.1,
        kept-no old name names unmarked ∙ rest.2,
        kept-no new name names (λ e. unmarked (sym head ∙ e)) ∙ rest.3,
      )
    ]

-- where it was the first marked place, its name was the first one
pub kept-first : (old new : ℕ → ℕ) (names : List ℕ) (place : ℕ) → place < length names →
    old place ≡ 1 → ((i : ℕ) → i < place → old i ≢ 1) →
    new place ≢ 1 → ((i : ℕ) → i < length names → i ≢ place → new i ≡ old i) →
    kept old names ≡ slice_index names place ∷ kept new names
kept-first old new [] place within was none is_not others = absurd (omega arith)
kept-first old new (name ∷ names) zero within was none is_not others =
    kept-yes old name names was
    ∙ ap (λ l. name ∷ l) (
    kept-same (λ i. old (suc i)) (λ i. new (suc i)) names
    (λ i low. sym (others (suc i) (omega arith) (λ e. omega arith)))
    ∙ sym (kept-no new name names is_not)
    )
kept-first old new (name ∷ names) (suc place) within was none is_not others =
    let rest = kept-first (λ i. old (suc i)) (λ i. new (suc i)) names place (omega arith) was
    (λ i low. none (suc i) (omega arith)) is_not
    (λ i low apart. others (suc i) (omega arith) (λ e. apart (omega (arith, e)))) in
    let head : new 0 ≡ old 0 = others 0 (omega arith) (λ e. omega arith) in
    let unmarked : old 0 ≢ 1 = none 0 (omega arith) in
    kept-no old name names unmarked ∙ rest
    ∙ ap (λ l. slice_index names place ∷ l) (sym (kept-no new name names (λ e. unmarked (sym head ∙ e))))

-- where just the first places are marked, the names are the first ones
pub kept-take : (marks : ℕ → ℕ) (names : List ℕ) (count : ℕ) → ((i : ℕ) → i < count → marks i ≡ 1) →
    ((i : ℕ) → count ≤ i → marks i ≢ 1) → kept marks names ≡ take count names
kept-take marks [] zero marked unmarked = refl
kept-take marks [] (suc count) marked unmarked = refl
kept-take marks (name ∷ names) zero marked unmarked =
    kept-no marks name names (unmarked 0 (omega arith))
    ∙ kept-take (λ i. marks (suc i)) names zero (λ i low. absurd (omega arith))
    (λ i high. unmarked (suc i) (omega arith))
kept-take marks (name ∷ names) (suc count) marked unmarked =
    kept-yes marks name names (marked 0 (omega arith))
    ∙ ap (λ l. name ∷ l) (
    kept-take (λ i. marks (suc i)) names count (λ i low. marked (suc i) (omega arith))
    (λ i high. unmarked (suc i) (omega arith))
    )

-- where no place of a name is marked, there are none
pub kept-none : (marks : ℕ → ℕ) (names : List ℕ) → ((i : ℕ) → i < length names → marks i ≢ 1) → kept marks names ≡ []
kept-none marks [] none = refl
kept-none marks (name ∷ names) none =
    kept-no marks name names (none 0 (omega arith))
    ∙ kept-none (λ i. marks (suc i)) names (λ i low. none (suc i) (omega arith))

-- of two lists one after the other, those of the first, and then those of the second
pub kept-append : (marks : ℕ → ℕ) (first second : List ℕ) →
    kept marks (first ++ second) ≡ kept marks first ++ kept (λ i. marks (length first + i)) second
kept-append marks [] second =
    kept-same marks (λ i. marks (0 + i)) second (λ i low. let e : i ≡ 0 + i = omega arith in ap marks e)
kept-append marks (name ∷ first) second =
    let rest = kept-append (λ i. marks (suc i)) first second
    ∙ ap (λ l. kept (λ i. marks (suc i)) first ++ l) (
    kept-same (λ i. marks (suc (length first + i))) (λ i. marks (length (name ∷ first) + i)) second
    (λ i low. let e : suc (length first + i) ≡ length (name ∷ first) + i = omega arith in ap marks e)
    ) in
    let behind : List ℕ = kept (λ i. marks (length (name ∷ first) + i)) second in
    elim (cases_eq (marks 0) 1) [
      | inl marked ↦
          kept-yes marks name (first ++ second) marked ∙ ap (λ l. name ∷ l) rest
          ∙ sym (ap (λ l. l ++ behind) (kept-yes marks name first marked))
      | inr unmarked ↦
          kept-no marks name (first ++ second) unmarked ∙ rest
          ∙ sym (ap (λ l. l ++ behind) (kept-no marks name first unmarked))
    ]

-- no more names are kept than there are
pub kept-short : (marks : ℕ → ℕ) (names : List ℕ) → length (kept marks names) ≤ length names
kept-short marks [] = omega arith
kept-short marks (name ∷ names) =
    let rest = kept-short (λ i. marks (suc i)) names in
    elim (cases_eq (marks 0) 1) [
      | inl marked ↦ omega (arith, ap length (kept-yes marks name names marked), rest)
      | inr unmarked ↦ omega (arith, ap length (kept-no marks name names unmarked), rest)
    ]
