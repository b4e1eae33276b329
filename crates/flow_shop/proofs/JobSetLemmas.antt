-- The members of a set of jobs.
use Rattle.std.proofs.Common.{◌≡◌, ℕ, zero, suc, ◌+◌, ◌-◌, ◌<◌, ◌≤◌, Bool, true, false, cond, List, [], ◌∷◌, ◌++◌}
use Rattle.std.proofs.Common.{length, refl, ap, sym, ◌∙◌, inl, inr, arith}
use Rattle.std.specs.Prelude.{slice_index_or, count_by}
use Rattle.std.specs.List.{filter, range_with_len}
use Rattle.std.proofs.lemmas.Bool.{cases_lt}
use Rattle.std.proofs.lemmas.List.{append-nil, get_or_past}
use Rattle.std.proofs.lemmas.List.Sums.{sum_by-cons}
use Rattle.flow_shop.specs.Shop.{numbers}
use Rattle.flow_shop.specs.JobSet.{contains, members}
use Rattle.flow_shop.proofs.JobsLeft.{filter-more, filter-past, numbers-more}
use Rattle.flow_shop.proofs.Taken.{range-same}

-- a test that only the first numbers pass
pub filter-first : (p : ℕ → Bool) (n most : ℕ) → n ≤ most → ((k : ℕ) → 1 ≤ k → k ≤ n → p k ≡ true) →
    ((k : ℕ) → n < k → p k ≡ false) → filter p (numbers 1 most) ≡ numbers 1 n
filter-first p n zero h pass fail = let none : n ≡ 0 = omega arith in sym (ap (numbers 1) none)
filter-first p n (suc most) h pass fail =
    elim (cases_lt n (suc most)) [
      | inl below ↦
          filter-more p most
          ∙ ap (λ b. filter p (numbers 1 most) ++ cond b (suc most ∷ []) []) (fail (suc most) below)
          ∙ append-nil (filter p (numbers 1 most))
          ∙ filter-first p n most (omega arith) pass fail
      | inr here ↦
          let last : n ≡ suc most = omega arith in
          filter-more p most
          ∙ ap (λ b. filter p (numbers 1 most)
          ++ cond b (suc most ∷ []) []) (pass (suc most) (omega arith) (omega arith))
          ∙ ap (λ xs. xs ++ suc most ∷ []) (all most (λ k low high. pass k low (omega arith)))
          ∙ sym (numbers-more most)
          ∙ ap (numbers 1) (sym last)
    ]
  where
    all : (m : ℕ) → ((k : ℕ) → 1 ≤ k → k ≤ m → p k ≡ true) → filter p (numbers 1 m) ≡ numbers 1 m
    all zero pass = refl
    all (suc m) pass =
        filter-more p m
        ∙ ap (λ b. filter p (numbers 1 m) ++ cond b (suc m ∷ []) []) (pass (suc m) (omega arith) (omega arith))
        ∙ ap (λ xs. xs ++ suc m ∷ []) (all m (λ k low high. pass k low (omega arith)))
        ∙ sym (numbers-more m)

-- the members of a set that has none above a number are the numbers up to it that the set has
pub members-is : (set : List Bool) (n : ℕ) → ((k : ℕ) → n < k → contains set k ≡ false) →
    members set ≡ filter (contains set) (numbers 1 n)
members-is set n h =
    elim (cases_lt (length set) n) [
      | inl short ↦
          let e : n ≡ (n - length set) + length set = omega arith in
          sym (filter-past (contains set) (length set) (n - length set) (λ k past. get_or_past set (k - 1) false
          (omega arith)))
          ∙ ap (λ m. filter (contains set) (numbers 1 m)) (sym e)
      | inr long ↦
          let e : length set ≡ (length set - n) + n = omega arith in
          ap (λ m. filter (contains set) (numbers 1 m)) e ∙ filter-past (contains set) n (length set - n) h
    ]

-- the flag of a number, where the first flag tells of `first`
abbrev flag_from : ℕ → List Bool → ℕ → Bool
flag_from first flags k = slice_index_or flags (k - first) false

length-cond : (b : Bool) (k : ℕ) (xs : List ℕ) → length (cond b (k ∷ xs) xs) ≡ cond b (suc (length xs)) (length xs)
length-cond true k xs = refl
length-cond false k xs = refl

count-step : (b : Bool) (flags : List Bool) → cond b (suc (count_by (λ f. f) flags)) (count_by (λ f. f) flags)
    ≡ count_by (λ f. f) (b ∷ flags)
count-step true flags = omega (arith, sum_by-cons (λ (f : Bool). cond {A = ℕ} f 1 0) true flags)
count-step false flags = omega (arith, sum_by-cons (λ (f : Bool). cond {A = ℕ} f 1 0) false flags)

count-from : (first : ℕ) (flags : List Bool) →
    length (filter (flag_from first flags) (range_with_len first (length flags))) ≡ count_by (λ f. f) flags
count-from first [] = refl
count-from first (b ∷ flags) =
    let start : first - first ≡ 0 = omega arith in
    let here : slice_index_or (b ∷ flags) (first - first) false ≡ b =
    ap (λ i. slice_index_or (b ∷ flags) i false) start in
    let rest = range-same (flag_from first (b ∷ flags)) (flag_from (first + 1) flags) (first
    + 1) (length flags) (λ k low _. ap (λ i. slice_index_or (b ∷ flags) i false) (later k low)) in
    ap (λ c. length (cond c (first ∷ filter (flag_from first (b ∷ flags)) (range_with_len (first
    + 1) (length flags))) (filter (flag_from first (b ∷ flags)) (range_with_len (first + 1) (length flags))))) here
    ∙ ap (λ xs. length (cond b (first ∷ xs) xs)) rest
    ∙ length-cond b first (filter (flag_from (first + 1) flags) (range_with_len (first + 1) (length flags)))
    ∙ ap (λ n. cond b (suc n) n) (count-from (first + 1) flags)
    ∙ count-step b flags
  where
    later : (k : ℕ) → first + 1 ≤ k → k - first ≡ suc (k - (first + 1))
    later k low = omega arith

-- the number of members is the number of flags that are set
pub length-members : (flags : List Bool) → length (members flags) ≡ count_by (λ f. f) flags
length-members flags = let all : length flags + 1 - 1 ≡ length flags = omega arith in
    ap (λ n. length (filter (contains flags) (range_with_len 1 n))) all ∙ count-from 1 flags
