-- A row that is made from the last machine on, and the rows that are made so far.
use Rattle.std.proofs.Common.{◌≡◌, ◌≢◌, ℕ, zero, suc, ◌+◌, ◌-◌, ◌<◌, ◌≤◌, List, [], ◌∷◌, ◌++◌, length, slice_index}
use Rattle.std.proofs.Common.{slice_index_or, refl, ap, sym, ◌∙◌, subst, inl, inr, arith, set}
use Rattle.std.proofs.lemmas.List.{get_or-set_other, get_or-set_same}
use Rattle.std.proofs.lemmas.Bool.{cases_lt}
use Rattle.flow_shop.specs.Shop.{Shop, time, time_between}
use Rattle.flow_shop.specs.Rows.{IsRow}
use Rattle.flow_shop.specs.declared.row.Row.{Row}

-- the machines of a row from which on it is made
abbrev pub Made : Shop → ℕ → ℕ → List ℕ → List ℕ → Type 0
Made shop job machine times tails =
    (k : ℕ) → machine < k → k ≤ shop.machines →
    (slice_index times (k - 1) ≡ time shop job k)
    × (slice_index tails (k - 1) ≡ time_between shop job (k + 1) shop.machines)

-- one more machine
pub made-more : (shop : Shop) (job machine t b : ℕ) (times tails : List ℕ) → 1 ≤ machine → machine - 1 < length times →
    machine - 1 < length tails →
    t ≡ time shop job machine → b ≡ time_between shop job (machine + 1) shop.machines →
    Made shop job machine times tails →
    Made shop job (machine - 1) (set times (machine - 1) t) (set tails (machine - 1) b)
made-more shop job machine t b times tails low in_times in_tails is_t is_b made k from to =
    elim (cases_lt machine k) [
      | inl later ↦
          let other : k - 1 ≢ machine - 1 = omega arith in
          let was = made k later to in (
            get_or-set_other times (machine - 1) (k - 1) t 0 other
                ∙ was.0,
            get_or-set_other tails (machine - 1) (k - 1) b 0 other ∙ was.1,
          )
      | inr here ↦
          let e : machine ≡ k = omega arith in (
            ap (λ i. slice_index (set times (machine - 1) t) (i - 1)) (sym e)
                ∙ get_or-set_same times (machine - 1) t 0 in_times ∙ is_t ∙ ap (time shop job) e,
            ap (λ i. slice_index (set tails (machine - 1) b) (i - 1)) (sym e)
                ∙ get_or-set_same tails (machine - 1) b 0 in_tails ∙ is_b
                ∙ ap (λ i. time_between shop job (i + 1) shop.machines) e,
          )
    ]

-- one more row
before-last : (xs : List Row) (x other : Row) (i : ℕ) → i < length xs →
    slice_index_or (xs ++ x ∷ []) i other ≡ slice_index_or xs i other
before-last [] x other i h = absurd (omega arith)
before-last (y ∷ ys) x other zero h = refl
before-last (y ∷ ys) x other (suc i) h = before-last ys x other i (omega (arith, h))

at-last : (xs : List Row) (x other : Row) (i : ℕ) → i ≡ length xs → slice_index_or (xs ++ x ∷ []) i other ≡ x
at-last [] x other zero h = refl
at-last [] x other (suc i) h = absurd (omega (arith, h))
at-last (y ∷ ys) x other zero h = absurd (omega (arith, h))
at-last (y ∷ ys) x other (suc i) h = at-last ys x other i (omega (arith, h))

pub each-more : (shop : Shop) (old new : List Row) (row : Row) (job : ℕ) → 1 ≤ job → length old ≡ job - 1 →
    new ≡ old ++ row ∷ [] → IsRow shop job row →
    ((j : ℕ) (other : Row) → 1 ≤ j → j < job → IsRow shop j (slice_index_or old (j - 1) other)) →
    (j : ℕ) (other : Row) → 1 ≤ j → j < job + 1 → IsRow shop j (slice_index_or new (j - 1) other)
each-more shop old new row job low count pushed is each j other from to =
    elim (cases_lt j job) [
      | inl earlier ↦
          let same : slice_index_or new (j - 1) other
          ≡ slice_index_or old (j - 1) other = ap (λ rs. slice_index_or rs (j - 1) other) pushed
          ∙ before-last old row other (j - 1) (omega (arith, count, from, earlier)) in
          subst (IsRow shop j) (sym same) (each j other from earlier)
      | inr here ↦
          let e : job ≡ j = omega (arith, here, to) in
          let same : slice_index_or new (j - 1) other ≡ row = ap (λ rs. slice_index_or rs (j - 1) other) pushed
          ∙ at-last old row other (j - 1) (omega (arith, count, e)) in
          subst (IsRow shop j) (sym same) (subst (λ k. IsRow shop k row) e is)
    ]
