-- Lists that are filled place by place, and how long a list of distinct jobs is.
use Rattle.std.proofs.Common.{◌≡◌, ◌≢◌, ℕ, ◌<◌, ◌≤◌, false, List, [], ◌∷◌, length, slice_index}
use Rattle.std.proofs.Common.{slice_index_or, set, ap, sym, ◌∙◌, subst, inl, inr, arith}
use Rattle.std.proofs.lemmas.Bool.{cases_lt}
use Rattle.std.proofs.lemmas.List.{get_or-set_other, get_or-set_same}
use Rattle.std.proofs.lemmas.List.Elements.{recursion_from_All, All-cons}
use Rattle.flow_shop.specs.Sequences.{has, AreJobs}
use Rattle.flow_shop.proofs.JobsLeft.{kept-le, kept-has, sum_by-ones}

-- a row is written at a place
pub row-written : (P : ℕ → List ℕ → Type 0) (rows : List (List ℕ)) (k : ℕ) (row : List ℕ) (j : ℕ) → k < length rows →
    P k row → (j ≢ k → P j (slice_index_or rows j [])) → P j (slice_index_or (set rows k row) j [])
row-written P rows k row j within here others =
    elim (cases_lt j k) [
      | inl before ↦ other (omega arith)
      | inr not_before ↦
          elim (cases_lt k j) [
            | inl behind ↦ other (omega arith)
            | inr not_behind ↦
                let e : k ≡ j = omega arith in
                subst (λ n. P n (slice_index_or (set rows k row) n [])) e (subst (P k) (sym
                (get_or-set_same rows k row [] within)) here)
          ]
    ]
  where
    other : j ≢ k → P j (slice_index_or (set rows k row) j [])
    other apart = subst (P j) (sym (get_or-set_other rows k j row [] apart)) (others apart)

-- a number is written at the next place
pub number-written : (f : ℕ → ℕ) (xs : List ℕ) (k value : ℕ) → k < length xs → value ≡ f k →
    ((j : ℕ) → j < k → slice_index xs j ≡ f j) → (j : ℕ) → j ≤ k → slice_index (set xs k value) j ≡ f j
number-written f xs k value within here before j low =
    elim (cases_lt j k) [
      | inl earlier ↦ let apart : j ≢ k = omega arith in get_or-set_other xs k j value 0 apart ∙ before j earlier
      | inr not_earlier ↦
          let e : j ≡ k = omega arith in
          ap (slice_index (set xs k value)) e ∙ get_or-set_same xs k value 0 within ∙ here ∙ ap f (sym e)
    ]

-- distinct jobs leave room for another one of them
pub jobs-short : (n job : ℕ) (jobs : List ℕ) → AreJobs n jobs → 1 ≤ job → job ≤ n → has jobs job ≡ false →
    length jobs < n
jobs-short n job jobs are low high fresh =
    let range = recursion_from_All (λ job. (1 ≤ job) × (job ≤ n)) (job
    ∷ jobs) (All-cons (λ job. (1 ≤ job) × (job ≤ n)) job jobs (low, high) are.range) in
    omega (
      arith,
      kept-has (λ _. 1) n (job ∷ jobs) range (fresh, are.distinct),
      sum_by-ones (job
          ∷ jobs),
      kept-le (has (job ∷ jobs)) n,
    )
