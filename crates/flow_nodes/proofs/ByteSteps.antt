-- What the operations on vectors of bytes do to a lane, and how late jobs are, machine by machine.
use Rattle.std.proofs.Common.{◌≡◌, ℕ, ◌+◌, ◌-◌, ◌%◌, ◌^◌, ◌<◌, ◌≤◌, min, max, false, cond, ltb, List, ◌++◌}
use Rattle.std.proofs.Common.{length, map, get_or, slice_index, slice_index_or, ap, sym, ◌∙◌, subst, inl, inr, arith, w8}
use Rattle.std.proofs.Common.{◌⊎◌, ◌/◌, bit_and, set}
use Rattle.std.specs.Prelude.{IsBitSet}
use Rattle.std.specs.Int.{bit_at}
use Rattle.std.proofs.lemmas.Nat.Bits.{bit_at-zero}
use Rattle.std.specs.Simd.Lanes.{zip2, sel_l, top}
use Rattle.std.proofs.lemmas.Bool.{cases_lt, lt-ltb, le-ltb}
use Rattle.std.proofs.lemmas.Simd.{tops_compared, length-sel_l, get_or-sel_l, length-zip2, get_or-zip2}
use Rattle.flow_shop.specs.Shop.{Shop, time}
use Rattle.flow_nodes.specs.Vectors.{HasLane}
use Rattle.flow_shop.specs.Sequences.{has}
use Rattle.flow_shop.specs.declared.end.End.{End}
use Rattle.flow_nodes.specs.Vectors.{limit_of}
use Rattle.flow_nodes.specs.Nodes.{IsJob, IsNode}
use Rattle.flow_nodes.specs.Groups.{IsGroup, child_bound}
use Rattle.flow_nodes.specs.Marks.{mark}
use Rattle.flow_nodes.specs.declared.node.Node.{Node}
use Rattle.flow_nodes.proofs.BelowSteps.{written-exact}
use Rattle.flow_nodes.proofs.ChildBounds.{child-bound-small}
use Rattle.flow_nodes.proofs.MarkSteps.{bit-set, mark-there}

abbrev less : ℕ → ℕ → ℕ
less a b = (a + (2 ^ 8 - b)) % 2 ^ 8

module _ (xs ys : List ℕ) (lane first second : ℕ) (x : HasLane 255 16 xs lane first)
    (y : HasLane 255 16 ys lane second) where
  -- the greater of the two
  abbrev most : List ℕ
  most = sel_l (map (top 7) (zip2 (λ a b. cond (ltb a b) 255 0) xs ys)) ys xs

  by-tests : most ≡ sel_l (zip2 ltb xs ys) ys xs
  by-tests = ap (λ ms. sel_l ms ys xs) (tops_compared w8 ltb xs ys)

  tests : length (zip2 ltb xs ys) ≡ 16
  tests = length-zip2 ltb xs ys (x.count ∙ sym y.count) ∙ x.count

  length-most : length most ≡ 16
  length-most =
      ap length by-tests
      ∙ length-sel_l (zip2 ltb xs ys) ys xs (tests ∙ sym y.count) (tests ∙ sym x.count)
      ∙ tests

  lane-most : get_or most lane 0 ≡ max (get_or xs lane 0) (get_or ys lane 0)
  lane-most =
      ap (λ l. get_or l lane 0) by-tests
      ∙ get_or-sel_l (zip2 ltb xs ys) ys xs lane 0 (omega (arith, tests, x.within)) (omega (arith, y.count, x.within))
      (omega (arith, x.count, x.within))
      ∙ ap (λ t. cond t (get_or ys lane 0) (get_or xs lane 0))
      (get_or-zip2 ltb xs ys lane 0 0 false (omega (arith, x.count, x.within)) (omega (arith, y.count, x.within)))
      ∙ elim (cases_lt (get_or xs lane 0) (get_or ys lane 0)) [
        | inl below ↦
            ap (λ b. cond b (get_or ys lane 0) (get_or xs lane 0)) (lt-ltb (get_or xs lane 0) (get_or ys lane 0) below)
            ∙ omega arith
        | inr above ↦
            ap (λ b. cond b (get_or ys lane 0) (get_or xs lane 0)) (le-ltb (get_or xs lane 0) (get_or ys lane 0) above)
            ∙ omega arith
      ]

  pub has-excess : HasLane 255 16 (zip2 less most ys) lane (min first 255 - min second 255)
  has-excess =
      let xs-is : get_or xs lane 0 ≡ min first 255 = omega (arith, x.value) in
      let ys-is : get_or ys lane 0 ≡ min second 255 = omega (arith, y.value) in
      let most-is : get_or most lane 0 ≡ max (min first 255) (min second 255) = omega (arith, lane-most, xs-is, ys-is) in
      let rest : less (max (min first 255) (min second 255)) (min second 255) ≡ min first 255 - min second 255 =
      omega arith in
      record {
        count = length-zip2 less most ys (length-most ∙ sym y.count) ∙ length-most;
        within = x.within;
        value = get_or-zip2 less most ys lane 0 0 0 (omega (arith, length-most, x.within))
            (omega (arith, y.count, x.within))
            ∙ ap (λ n. less n (get_or ys lane 0)) most-is
            ∙ ap (less (max (min first 255) (min second 255))) ys-is
            ∙ omega (arith, rest);
      }

-- a job that is late by some number, or by more, is late by what that exceeds the gap by, on the next machine
pub late-start : (before near free number : ℕ) → before + number ≤ free →
    near + (min number 255 - min (near - before) 255) ≤ max free near
late-start before near free number late = omega (arith, late)

-- where that exceeds the slack, the limit is reached
pub reached : (near jobs far start late limit : ℕ) → near + late ≤ start →
    0 < min late 255 - min (limit - 1 - (near + jobs + far)) 255 → limit ≤ start + (jobs + far)
reached near jobs far start late limit is some = omega (arith, is, some)

pub reached-back : (near jobs far start late limit : ℕ) → near + late ≤ start →
    0 < min late 255 - min (limit - 1 - (far + jobs + near)) 255 → limit ≤ start + (jobs + far)
reached-back near jobs far start late limit is some = omega (arith, is, some)

-- what a group of bytes has at a place
pub byte-at : (shop : Shop) (jobs : List ℕ) (group : List (List ℕ)) (place lane : ℕ) (none : List ℕ) →
    IsGroup (λ lanes. lanes) 255 16 shop jobs group → place < shop.machines → lane < 16 →
    HasLane 255 16 (slice_index_or group place none) lane (time shop (slice_index jobs lane) (place + 1))
byte-at shop jobs group place lane none are below within =
    let same : place + 1 - 1 ≡ place = omega arith in
    subst (λ i. HasLane 255 16 (slice_index_or group i none) lane (time shop (slice_index jobs lane) (place + 1))) same
    (are.times (place + 1) lane none (omega arith) (omega (arith, below)) within)

-- a place left is marked by the bits of its group, or its child is at or above the threshold
pub kept-or-high : (left words : List ℕ) (group bits word place : ℕ) → group < length words →
    word ≡ slice_index left group → place / 16 ≡ group → (shop : Shop) (number limit : ℕ) (end : End)
    (first last : List ℕ) (node : Node) (job : ℕ) → IsNode shop first last node → IsJob shop job →
    limit ≡ limit_of number → has (first ++ last) job ≡ false → mark left place ≡ 1 →
    IsBitSet bits (place % 16) ⊎ (limit ≤ child_bound shop end first last job) →
    (mark (set words group (bit_and bits word)) place ≡ 1) ⊎ (number ≤ child_bound shop end first last job)
kept-or-high left words group bits word place few word-is there shop number limit end first last node job is range
    limit-is fresh was either = elim either [
      | inl bit ↦
          let one : bit_at bits (place % 16) ≡ 1 = bit-set bits (place % 16) bit in
          inl ((written-exact left words group bits word place few word-is there 0 1 was
          (λ e. omega arith, λ low. one)).1 (omega arith))
      | inr high ↦
          inr (omega (
            arith,
            high,
            limit-is,
            child-bound-small shop end first last job node is range fresh,
          ))
    ]

-- where the word that is written is 0, no place of it is marked
pub kept-none : (words : List ℕ) (group value place : ℕ) → group < length words → place / 16 ≡ group → value ≡ 0 →
    mark (set words group value) place ≡ 0
kept-none words group value place few there none =
    mark-there words group value place few there ∙ ap (λ v. bit_at v (place % 16)) none ∙ bit_at-zero (place % 16)

-- vectors are written from a place on, up to another one
pub more-written : (P : ℕ → List ℕ → Type 0) (old new : List (List ℕ)) (at to : ℕ) (none : List ℕ) →
    ((place : ℕ) → place < at → P place (slice_index_or old place none)) →
    ((place : ℕ) → place < at → slice_index_or new place none ≡ slice_index_or old place none) →
    ((place : ℕ) → at ≤ place → place < to → P place (slice_index_or new place none)) →
    (place : ℕ) → place < to → P place (slice_index_or new place none)
more-written P old new at to none done same more place low = elim (cases_lt place at) [
  | inl before ↦ subst (P place) (sym (same place before)) (done place before)
  | inr behind ↦ more place behind low
]

-- a lane that has the least of a number and 255 has the number
pub byte-lane : (lanes : List ℕ) (lane number small : ℕ) → small ≡ 255 - (255 - number) → HasLane 255 16 lanes lane small →
    HasLane 255 16 lanes lane number
byte-lane lanes lane number small is has = record {
  count = has.count;
  within = has.within;
  value = omega (arith, has.value, is);
}
