-- Sums of the lanes that a word marks.
use Rattle.std.proofs.Common.{◌≡◌, ℕ, suc, ◌+◌, ◌*◌, ◌-◌, ◌^◌, ◌<◌, ◌≤◌, cond, false, nat_eq, List, [], ◌∷◌, length, map}
use Rattle.std.proofs.Common.{get_or, zero, refl, ap, sym, ◌∙◌, inl, inr, arith, pow_pos}
use Rattle.std.specs.Prelude.{bit_and, replicate, sum, sum_by}
use Rattle.std.specs.Int.{bit_at}
use Rattle.std.specs.Simd.Lanes.{zip2, sel_l, top}
use Rattle.std.proofs.lemmas.Bool.{cases_eq, cond-true, cond-false, eq-eqb, ne_eqb}
use Rattle.std.proofs.lemmas.List.Sums.{sum_by-cons}
use Rattle.std.proofs.lemmas.Nat.Bits.{and_pow, bit_at-lt}
use Rattle.std.proofs.lemmas.Simd.{tops_compared, length-sel_l, get_or-sel_l, length-zip2, get_or-zip2}
use Rattle.std.proofs.lemmas.Simd.{length-replicate, get_or-replicate}
use mir.Syntax.{Width}
use mir.Val.{bits, hbits}
use Rattle.flow_nodes.specs.Vectors.{HasLane}
use Rattle.flow_nodes.specs.Marks.{picked}
use Rattle.flow_nodes.proofs.MarkedNames.{kept, kept-yes, kept-no}
use Rattle.flow_nodes.proofs.ChosenNames.{picked-bits}

-- numbers that are those of a list where the mark is 1, and else 0, have the sum of those marked
kept-sum : (marks : ℕ → ℕ) (xs ys : List ℕ) → length ys ≡ length xs →
    ((i : ℕ) → i < length xs → get_or ys i 0 ≡ cond (nat_eq (marks i) 1) (get_or xs i 0) 0) →
    sum ys ≡ sum (kept marks xs)
kept-sum marks [] [] same each = refl
kept-sum marks [] (y ∷ ys) same each = absurd (omega (arith, same))
kept-sum marks (x ∷ xs) [] same each = absurd (omega (arith, same))
kept-sum marks (x ∷ xs) (y ∷ ys) same each =
    let rest : List ℕ = kept (λ i. marks (suc i)) xs in
    let more : sum ys ≡ sum rest =
    kept-sum (λ i. marks (suc i)) xs ys (omega (arith, same)) (λ i low. each (suc i) (omega (arith, low))) in
    let all : sum (y ∷ ys) ≡ y + sum ys = sum_by-cons (λ v. v) y ys in
    let head : y ≡ cond (nat_eq (marks 0) 1) x 0 = each 0 (omega arith) in
    elim (cases_eq (marks 0) 1) [
      | inl is ↦
          let here : y ≡ x = head ∙ cond-true _ _ _ (eq-eqb (marks 0) 1 is) in
          let both : sum (kept marks (x ∷ xs)) ≡ x + sum rest =
          ap sum (kept-yes marks x xs is) ∙ sum_by-cons (λ v. v) x rest in
          omega (arith, all, both, here, more)
      | inr other ↦
          let here : y ≡ 0 = head ∙ cond-false _ _ _ (ne_eqb (marks 0) 1 other) in
          let both : sum (kept marks (x ∷ xs)) ≡ sum rest = ap sum (kept-no marks x xs other) in
          omega (arith, all, both, here, more)
    ]

-- the same numbers, by the names that they are of
kept-names : (f marks : ℕ → ℕ) (names lanes : List ℕ) → length lanes ≡ length names →
    ((i : ℕ) → i < length names → marks i ≡ 1 → get_or lanes i 0 ≡ f (get_or names i 0)) →
    sum (kept marks lanes) ≡ sum_by f (kept marks names)
kept-names f marks [] [] same each = refl
kept-names f marks [] (lane ∷ lanes) same each = absurd (omega (arith, same))
kept-names f marks (name ∷ names) [] same each = absurd (omega (arith, same))
kept-names f marks (name ∷ names) (lane ∷ lanes) same each =
    let rest : List ℕ = kept (λ i. marks (suc i)) lanes in
    let named : List ℕ = kept (λ i. marks (suc i)) names in
    let more : sum rest ≡ sum_by f named =
    kept-names f (λ i. marks (suc i)) names lanes (omega (arith, same)) (λ i low. each (suc i) (omega (arith, low))) in
    elim (cases_eq (marks 0) 1) [
      | inl is ↦
          let here : lane ≡ f name = each 0 (omega arith) is in
          let left : sum (kept marks (lane ∷ lanes)) ≡ lane + sum rest =
          ap sum (kept-yes marks lane lanes is) ∙ sum_by-cons (λ v. v) lane rest in
          let right : sum_by f (kept marks (name ∷ names)) ≡ f name + sum_by f named =
          ap (sum_by f) (kept-yes marks name names is) ∙ sum_by-cons f name named in
          omega (arith, left, right, here, more)
      | inr other ↦
          ap sum (kept-no marks lane lanes other)
          ∙ more
          ∙ sym (ap (sum_by f) (kept-no marks name names other))
    ]

-- the bit of each lane
abbrev pub powers : List ℕ
powers =
    1 ∷ 2 ∷ 4 ∷ 8 ∷ 16 ∷ 32 ∷ 64 ∷ 128 ∷ 256 ∷ 512 ∷ 1024 ∷ 2048 ∷ 4096 ∷ 8192 ∷ 16384 ∷ 32768 ∷ []

powers-are : (lane : ℕ) → lane < 16 → get_or powers lane 0 ≡ 2 ^ lane
powers-are zero low = refl
powers-are (suc zero) low = refl
powers-are (suc (suc zero)) low = refl
powers-are (suc (suc (suc zero))) low = refl
powers-are (suc (suc (suc (suc zero)))) low = refl
powers-are (suc (suc (suc (suc (suc zero))))) low = refl
powers-are (suc (suc (suc (suc (suc (suc zero)))))) low = refl
powers-are (suc (suc (suc (suc (suc (suc (suc zero))))))) low = refl
powers-are (suc (suc (suc (suc (suc (suc (suc (suc zero)))))))) low = refl
powers-are (suc (suc (suc (suc (suc (suc (suc (suc (suc zero))))))))) low = refl
powers-are (suc (suc (suc (suc (suc (suc (suc (suc (suc (suc zero)))))))))) low = refl
powers-are (suc (suc (suc (suc (suc (suc (suc (suc (suc (suc (suc zero))))))))))) low = refl
powers-are (suc (suc (suc (suc (suc (suc (suc (suc (suc (suc (suc (suc zero)))))))))))) low = refl
powers-are (suc (suc (suc (suc (suc (suc (suc (suc (suc (suc (suc (suc (suc zero))))))))))))) low = refl
powers-are (suc (suc (suc (suc (suc (suc (suc (suc (suc (suc (suc (suc (suc (suc zero)))))))))))))) low = refl
powers-are (suc (suc (suc (suc (suc (suc (suc (suc (suc (suc (suc (suc (suc (suc (suc zero))))))))))))))) low = refl
powers-are (suc (suc (suc (suc (suc (suc (suc (suc (suc (suc (suc (suc (suc (suc (suc (suc lane)))))))))))))))) low = absurd (omega (arith, low))

-- a vector in which the lanes that a word does not mark are 0
module _ (w : Width) (word : ℕ) (xs : List ℕ) (long : length xs ≡ 16) where
  count : length powers ≡ 16
  count = refl

  abbrev met : List ℕ
  met = zip2 bit_and (replicate 16 word) powers

  abbrev pub marked_lanes : List ℕ
  marked_lanes =
      sel_l (map (top (hbits w)) (zip2 (λ a b. cond (nat_eq a b) (2 ^ bits w - 1) 0) met powers)) xs (replicate 16 0)

  met-long : length met ≡ 16
  met-long =
      let all : length (replicate 16 word) ≡ 16 = length-replicate 16 word in
      length-zip2 bit_and (replicate 16 word) powers (omega (arith, all, count)) ∙ all

  tests : length (zip2 nat_eq met powers) ≡ 16
  tests = length-zip2 nat_eq met powers (omega (arith, met-long, count)) ∙ met-long

  by-tests : marked_lanes ≡ sel_l (zip2 nat_eq met powers) xs (replicate 16 0)
  by-tests = ap (λ ms. sel_l ms xs (replicate 16 0)) (tops_compared w nat_eq met powers)

  pub length-marked : length marked_lanes ≡ 16
  length-marked =
      ap length by-tests
      ∙ length-sel_l (zip2 nat_eq met powers) xs (replicate 16 0) (omega (arith, tests, long))
      (omega (arith, tests, length-replicate {A = ℕ} 16 0))
      ∙ tests

  module _ (lane : ℕ) (low : lane < 16) where
    met-is : get_or met lane 0 ≡ bit_at word lane * 2 ^ lane
    met-is =
        get_or-zip2 bit_and (replicate 16 word) powers lane 0 0 0 (omega (arith, low, length-replicate 16 word))
        (omega (arith, low, count))
        ∙ ap (λ a. bit_and a (get_or powers lane 0)) (get_or-replicate 16 lane word 0 low)
        ∙ ap (bit_and word) (powers-are lane low)
        ∙ and_pow word lane

    test-is : nat_eq (get_or met lane 0) (get_or powers lane 0) ≡ nat_eq (bit_at word lane) 1
    test-is = elim (cases_eq (bit_at word lane) 1) [
      | inl is ↦
          let same : get_or met lane 0 ≡ get_or powers lane 0 =
          met-is ∙ ap (λ b. b * 2 ^ lane) is ∙ omega (arith, powers-are lane low) in
          eq-eqb (get_or met lane 0) (get_or powers lane 0) same ∙ sym (eq-eqb (bit_at word lane) 1 is)
      | inr other ↦
          let none : bit_at word lane ≡ 0 = omega (arith, other, bit_at-lt word lane) in
          let zeros : get_or met lane 0 ≡ 0 = met-is ∙ ap (λ b. b * 2 ^ lane) none ∙ omega arith in
          ne_eqb (get_or met lane 0) (get_or powers lane 0)
          (λ same. omega (arith, same, zeros, powers-are lane low, pow_pos lane))
          ∙ sym (ne_eqb (bit_at word lane) 1 other)
    ]

    lane-marked : get_or marked_lanes lane 0 ≡ cond (nat_eq (bit_at word lane) 1) (get_or xs lane 0) 0
    lane-marked =
        ap (λ l. get_or l lane 0) by-tests
        ∙ get_or-sel_l (zip2 nat_eq met powers) xs (replicate 16 0) lane 0 (omega (arith, low, tests))
        (omega (arith, low, long)) (omega (arith, low, length-replicate {A = ℕ} 16 0))
        ∙ ap (λ t. cond t (get_or xs lane 0) (get_or (replicate 16 0) lane 0))
        (get_or-zip2 nat_eq met powers lane 0 0 false (omega (arith, low, met-long)) (omega (arith, low, count))
        ∙ test-is)
        ∙ ap (cond (nat_eq (bit_at word lane) 1) (get_or xs lane 0)) (get_or-replicate 16 lane 0 0 low)

  -- where the marked lanes have what names come to, their sum is that of the names that are marked
  pub marked-sum : (cap : ℕ) (f : ℕ → ℕ) (names : List ℕ) → length names ≡ 16 →
      ((lane : ℕ) → lane < 16 → bit_at word lane ≡ 1 →
      HasLane cap 16 xs lane (f (get_or names lane 0)) × (f (get_or names lane 0) ≤ cap)) →
      sum marked_lanes ≡ sum_by f (picked word 0 names)
  marked-sum cap f names all each =
      kept-sum (bit_at word) xs marked_lanes (omega (arith, length-marked, long))
      (λ lane low. lane-marked lane (omega (arith, low, long)))
      ∙ kept-names f (bit_at word) names xs (omega (arith, long, all))
      (λ lane low is. let has = each lane (omega (arith, low, all)) is in omega (arith, has.0.value, has.1))
      ∙ sym (ap (sum_by f) (picked-bits word names))
