-- What the operations on vectors do to a lane.
use Rattle.std.proofs.Common.{◌≡◌, ℕ, ◌+◌, ◌-◌, ◌/◌, ◌%◌, ◌^◌, ◌<◌, ◌≤◌, min, max, false, cond, ltb, List}
use Rattle.std.proofs.Common.{length, map, get_or, ap, sym, ◌∙◌, inl, inr, arith, subst}
use Rattle.std.specs.Prelude.{IsBitSet, ◌↔◌, bit_and, replicate}
use Rattle.std.specs.Simd.Lanes.{zip2, sel_l, top, mask_l}
use Rattle.std.proofs.lemmas.Bool.{cases_lt, lt-ltb, le-ltb}
use Rattle.std.proofs.lemmas.List.{length-map, get_or-map, get_or_past}
use Rattle.std.proofs.lemmas.Nat.{bit_set_by_shift, and_mask}
use Rattle.std.proofs.lemmas.Simd.{tops_compared, length-sel_l, get_or-sel_l, length-zip2, get_or-zip2}
use Rattle.std.proofs.lemmas.Simd.{bitmask_splat, bit_mask_l}
use native.Mathlib.Nat.{mod-eq_of_lt}
use mir.Syntax.{Width}
use mir.Val.{bits, hbits}
use Rattle.flow_nodes.specs.Vectors.{capped, HasLane}

-- the first number where the test holds, and else the second
abbrev chosen_lanes : Width → List ℕ → List ℕ → List ℕ → List ℕ → List ℕ
chosen_lanes w xs ys us vs = sel_l (map (top (hbits w)) (zip2 (λ a b. cond (ltb a b) (2 ^ bits w - 1) 0) xs ys)) us vs

module _ (w : Width) (xs ys us vs : List ℕ) (n : ℕ) (x-long : length xs ≡ n) (y-long : length ys ≡ n)
    (u-long : length us ≡ n) (v-long : length vs ≡ n) where
  by-tests : chosen_lanes w xs ys us vs ≡ sel_l (zip2 ltb xs ys) us vs
  by-tests = ap (λ ms. sel_l ms us vs) (tops_compared w ltb xs ys)

  tests : length (zip2 ltb xs ys) ≡ n
  tests = length-zip2 ltb xs ys (omega arith) ∙ x-long

  length-chosen : length (chosen_lanes w xs ys us vs) ≡ n
  length-chosen =
      ap length by-tests
      ∙ length-sel_l (zip2 ltb xs ys) us vs (omega (arith, tests)) (omega (arith, tests))
      ∙ tests

  lane-chosen : (i : ℕ) → i < n → get_or (chosen_lanes w xs ys us vs) i 0
      ≡ cond (ltb (get_or xs i 0) (get_or ys i 0)) (get_or us i 0) (get_or vs i 0)
  lane-chosen i within =
      ap (λ l. get_or l i 0) by-tests
      ∙ get_or-sel_l (zip2 ltb xs ys) us vs i 0 (omega (arith, tests)) (omega arith) (omega arith)
      ∙ ap (λ t. cond t (get_or us i 0) (get_or vs i 0))
      (get_or-zip2 ltb xs ys i 0 0 false (omega arith) (omega arith))

greater : (x y : ℕ) → cond (ltb x y) y x ≡ max x y
greater x y = elim (cases_lt x y) [
  | inl below ↦ ap (λ b. cond b y x) (lt-ltb x y below) ∙ omega arith
  | inr above ↦ ap (λ b. cond b y x) (le-ltb x y above) ∙ omega arith
]

lesser : (x y : ℕ) → cond (ltb x y) x y ≡ min x y
lesser x y = elim (cases_lt x y) [
  | inl below ↦ ap (λ b. cond b x y) (lt-ltb x y below) ∙ omega arith
  | inr above ↦ ap (λ b. cond b x y) (le-ltb x y above) ∙ omega arith
]

module _ (w : Width) (cap width : ℕ) (xs ys : List ℕ) (lane one two : ℕ) (x : HasLane cap width xs lane one)
    (y : HasLane cap width ys lane two) where
  pub has-greater : HasLane cap width (chosen_lanes w xs ys ys xs) lane (max one two)
  has-greater = record {
    count = length-chosen w xs ys ys xs width x.count y.count y.count x.count;
    within = x.within;
    value = lane-chosen w xs ys ys xs width x.count y.count y.count x.count lane x.within
        ∙ greater (get_or xs lane 0) (get_or ys lane 0)
        ∙ omega (arith, x.value, y.value);
  }

  -- the sum of a number and of what of the other there is room for
  abbrev room : List ℕ
  room = map (λ a. 2 ^ bits w - 1 - a) xs

  pub has-sum : cap + 1 ≡ 2 ^ bits w →
      HasLane cap width (zip2 (λ a b. (a + b) % 2 ^ bits w) xs (chosen_lanes w ys room ys room)) lane (one + two)
  has-sum top =
      let long : length room ≡ width = length-map xs (λ a. 2 ^ bits w - 1 - a) ∙ x.count in
      let rest = chosen_lanes w ys room ys room in
      let rest-long : length rest ≡ width = length-chosen w ys room ys room width y.count long y.count long in
      let rest-is : get_or rest lane 0 ≡ min (get_or ys lane 0) (2 ^ bits w - 1 - get_or xs lane 0) =
      lane-chosen w ys room ys room width y.count long y.count long lane x.within
      ∙ lesser (get_or ys lane 0) (get_or room lane 0)
      ∙ ap (min (get_or ys lane 0))
      (get_or-map (λ a. 2 ^ bits w - 1 - a) xs lane 0 0 (omega (arith, x.count, x.within))) in
      let sum : get_or xs lane 0 + get_or rest lane 0 ≡ capped cap (one + two) =
      omega (arith, rest-is, x.value, y.value, top) in
      let fits : get_or xs lane 0 + get_or rest lane 0 < 2 ^ bits w = omega (arith, sum, top) in
      record {
        count = length-zip2 (λ a b. (a + b) % 2 ^ bits w) xs rest (x.count ∙ sym rest-long) ∙ x.count;
        within = x.within;
        value = get_or-zip2 (λ a b. (a + b) % 2 ^ bits w) xs rest lane 0 0 0 (omega (arith, x.count, x.within))
            (omega (arith, rest-long, x.within))
            ∙ mod-eq_of_lt fits
            ∙ sum;
      }

  -- the sum, where it fits
  pub has-whole : cap + 1 ≡ 2 ^ bits w → one + two ≤ cap →
      HasLane cap width (zip2 (λ a b. (a + b) % 2 ^ bits w) xs ys) lane (one + two)
  has-whole top whole =
      let sum : get_or xs lane 0 + get_or ys lane 0 ≡ one + two = omega (arith, x.value, y.value, whole) in
      let fits : get_or xs lane 0 + get_or ys lane 0 < 2 ^ bits w = omega (arith, sum, whole, top) in
      record {
        count = length-zip2 (λ a b. (a + b) % 2 ^ bits w) xs ys (x.count ∙ sym y.count) ∙ x.count;
        within = x.within;
        value = get_or-zip2 (λ a b. (a + b) % 2 ^ bits w) xs ys lane 0 0 0 (omega (arith, x.count, x.within))
            (omega (arith, y.count, x.within))
            ∙ mod-eq_of_lt fits
            ∙ omega (arith, sum, whole);
      }

-- a bit of the mask is set where the lane is below
pub is-below : (w : Width) (cap width : ℕ) (xs : List ℕ) (lane value number : ℕ) → width ≤ 64 → number ≤ cap →
    HasLane cap width xs lane value →
    IsBitSet (mask_l (map (top (hbits w)) (zip2 (λ a b. cond (ltb a b) (2 ^ bits w - 1) 0) xs (replicate width number)))
    % 2 ^ 64) lane ↔ (value < number)
is-below w cap width xs lane value number few small x =
    let mask = mask_l (map (λ a. ltb a number) xs) in
    let is = bitmask_splat w ltb xs width number x.count few in
    let bit : mask / 2 ^ lane % 2 ≡ cond (ltb (get_or xs lane 0) number) 1 0 =
    bit_mask_l (map (λ a. ltb a number) xs) lane
    ∙ ap (λ t. cond t 1 0) (get_or-map (λ a. ltb a number) xs lane 0 false (omega (arith, x.count, x.within))) in
    let low : bit_and (mask / 2 ^ lane) 1 ≡ mask / 2 ^ lane % 2 = and_mask (mask / 2 ^ lane) 1 in
    subst (λ m. IsBitSet m lane ↔ (value < number)) (sym is) (
      λ set. elim (cases_lt (get_or xs lane 0) number) [
        | inl below ↦ omega (arith, x.value, below, small)
        | inr above ↦
            let none : bit_and (mask / 2 ^ lane) 1 ≡ 0 =
            low ∙ bit ∙ ap (λ t. cond t 1 0) (le-ltb (get_or xs lane 0) number above) in
            let one : bit_and (mask / 2 ^ lane) 1 ≡ 1 = (bit_set_by_shift mask lane).1 set in
            absurd (omega (arith, none, one))
      ],
      λ below. (bit_set_by_shift mask lane).0
          (low ∙ bit ∙ ap (λ t. cond t 1 0) (lt-ltb (get_or xs lane 0) number (omega (arith, x.value, below, small)))),
    )

-- no bit of the mask is set that no lane has
pub none-above : (w : Width) (width : ℕ) (xs : List ℕ) (lane number : ℕ) → length xs ≡ width → width ≤ 64 →
    width ≤ lane →
    ¬ IsBitSet (mask_l (map (top (hbits w)) (zip2 (λ a b. cond (ltb a b) (2 ^ bits w - 1) 0) xs
    (replicate width number))) % 2 ^ 64) lane
none-above w width xs lane number count few above set =
    let tests = map (λ a. ltb a number) xs in
    let mask = mask_l tests in
    let bit : mask / 2 ^ lane % 2 ≡ 0 =
    bit_mask_l tests lane
    ∙ ap (λ t. cond t 1 0)
    (get_or_past tests lane false (omega (arith, count, above, length-map xs (λ a. ltb a number)))) in
    let low : bit_and (mask / 2 ^ lane) 1 ≡ mask / 2 ^ lane % 2 = and_mask (mask / 2 ^ lane) 1 in
    let one : bit_and (mask / 2 ^ lane) 1 ≡ 1 =
    (bit_set_by_shift mask lane).1
    (subst (λ m. IsBitSet m lane) (bitmask_splat w ltb xs width number count few) set) in
    absurd (omega (arith, low, bit, one))
