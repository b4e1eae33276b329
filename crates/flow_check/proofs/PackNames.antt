-- The names of packs.
use Rattle.std.proofs.Common.{◌≡◌, ◌≢◌, ℕ, zero, suc, ◌+◌, ◌-◌, ◌*◌, ◌<◌, ◌≤◌, List, [], ◌∷◌, ◌++◌, length, slice_index_or}
use Rattle.std.proofs.Common.{length-append, refl, ap, sym, ◌∙◌, subst, inl, inr, arith}
use Rattle.std.proofs.Math.Seq.{get_or-append_seam}
use Rattle.std.proofs.lemmas.Bool.{cases_lt, cases_eq}
use Rattle.std.proofs.lemmas.List.{get_or_append_left, get_or-append_right}
use Rattle.flow_shop.specs.Shop.{Shop}
use Rattle.flow_shop.proofs.Lists.{some-of}
use Rattle.flow_nodes.specs.declared.pack.Pack.{Pack}
use Rattle.flow_check.specs.internal.Frames.{pack_groups}
use Rattle.flow_nodes.specs.Packs.{AreBytes, HasByteRoom, HasRoom, IsPack}
use Rattle.flow_check.specs.internal.Frames.{ArePacks, HavePacks, names_at}

module _ {V : Type 0} where
  pub names-is : (packs : List (Pack V)) (place : ℕ) (none : Pack V) → place < length packs →
      names_at packs place ≡ (slice_index_or packs place none).names.items
  names-is [] place none within = absurd (omega (arith, within))
  names-is (pack ∷ packs) zero none within = refl
  names-is (pack ∷ packs) (suc place) none within = names-is packs place none (omega (arith, within))

  -- where the pack is the same, so are its names
  pub names-same : (old new : List (Pack V)) (place : ℕ) → place < length old → length new ≡ length old →
      ((none : Pack V) → slice_index_or new place none ≡ slice_index_or old place none) →
      names_at new place ≡ names_at old place
  names-same old new place within size same =
      let none : Pack V = some-of old (omega (arith, within)) in
      names-is new place none (omega (arith, within, size))
      ∙ ap (λ p. p.names.items) (same none)
      ∙ sym (names-is old place none within)

  -- how many there are
  pub names-count : (shop : Shop) (packs : List (Pack V)) (place : ℕ) → HavePacks shop packs → place < length packs →
      length (names_at packs place) ≡ (place + 1) * 16
  names-count shop packs place have within =
      let none : Pack V = some-of packs (omega (arith, within)) in
      omega (
        arith,
        ap length (names-is packs place none within),
        (have.rooms place none within).names,
        have.groups place none within,
      )

  -- of packs that are parted, the names of one before the place, and of one behind it
  pub names-left : (packs fewer more : List (Pack V)) (place : ℕ) (none : Pack V) → packs ≡ fewer ++ more →
      place < length fewer → names_at packs place ≡ (slice_index_or fewer place none).names.items
  names-left packs fewer more place none value low =
      ap (λ ps. names_at ps place) value
      ∙ names-is (fewer ++ more) place none (omega (arith, low, length-append fewer more))
      ∙ ap (λ p. p.names.items) (get_or_append_left fewer more none place low)

  pub names-right : (packs fewer more : List (Pack V)) (count place : ℕ) (none : Pack V) → packs ≡ fewer ++ more →
      length fewer ≡ count → count ≤ place → place < length packs →
      names_at packs place ≡ (slice_index_or more (place - count) none).names.items
  names-right packs fewer more count place none value size behind low =
      names-is packs place none low
      ∙ ap (λ ps. (slice_index_or ps place none).names.items) value
      ∙ ap (λ p. p.names.items) (get_or-append_right fewer more count place none size behind)

-- one more pack
pub packs-push : {X : Type 0} (P : ℕ → X → Type 0) (xs : List X) (x : X) →
    ((place : ℕ) (none : X) → place < length xs → P place (slice_index_or xs place none)) → P (length xs) x →
    (place : ℕ) (none : X) → place < length (xs ++ x ∷ []) → P place (slice_index_or (xs ++ x ∷ []) place none)
packs-push P xs x before here place none within = elim (cases_lt place (length xs)) [
  | inl low ↦ subst (P place) (sym (get_or_append_left xs (x ∷ []) none place low)) (before place none low)
  | inr high ↦
      let same : place ≡ length xs = omega (arith, high, within, length-append xs (x ∷ [])) in
      subst (λ n. P n (slice_index_or (xs ++ x ∷ []) n none)) (sym same)
      (subst (P (length xs)) (sym (get_or-append_seam xs x [] none)) here)
]

-- one pack is written
pub packs-written : {X : Type 0} (P : ℕ → X → Type 0) (old new : List X) (at : ℕ) →
    ((none : X) → P at (slice_index_or new at none)) →
    ((place : ℕ) (none : X) → place ≢ at → slice_index_or new place none ≡ slice_index_or old place none) →
    (place : ℕ) (none : X) → (place ≢ at → P place (slice_index_or old place none)) →
    P place (slice_index_or new place none)
packs-written P old new at here others place none before = elim (cases_eq place at) [
  | inl same ↦ subst (λ p. P p (slice_index_or new p none)) (sym same) (here none)
  | inr apart ↦ subst (P place) (sym (others place none apart)) (before apart)
]

-- memory for packs, of which one is written
pub have-written : {V : Type 0} (shop : Shop) (old new : List (Pack V)) (at : ℕ) → HavePacks shop old →
    at < length old → length new ≡ length old →
    ((place : ℕ) (none : Pack V) → place ≢ at → slice_index_or new place none ≡ slice_index_or old place none) →
    ((none : Pack V) → HasRoom shop (slice_index_or new at none)) →
    ((none : Pack V) → length (slice_index_or new at none).groups.items ≡ at + 1) →
    ((none : Pack V) → HasByteRoom shop (slice_index_or new at none)) → HavePacks shop new
have-written shop old new at have low size others room groups bytes = record {
  count = size ∙ have.count;
  rooms = λ place none within. packs-written (λ p v. HasRoom shop v) old new at room others place none
      (λ apart. have.rooms place none (omega (arith, within, size)));
  groups = λ place none within. packs-written (λ p v. length v.groups.items ≡ p + 1) old new at groups others place none
      (λ apart. have.groups place none (omega (arith, within, size)));
  byte_rooms = λ place none within. packs-written (λ p v. HasByteRoom shop v) old new at bytes others place none
      (λ apart. have.byte_rooms place none (omega (arith, within, size)));
}

-- what holds of packs at which so many jobs are left
module _ {V : Type 0} (list : V → List ℕ) (cap width : ℕ) (shop : Shop) where
  -- the packs of the nodes above
  pub packs-above : (left more : ℕ) (packs : List (Pack V)) → left ≤ more → ArePacks list cap width shop left packs →
      ArePacks list cap width shop more packs
  packs-above left more packs high are = record {
    have = are.have;
    packed = λ other none low within. are.packed other none (omega (arith, low, high)) within;
    bytes = λ other none low within. are.bytes other none (omega (arith, low, high)) within;
  }

  -- a fact about the packs of a child, where that of its parent is the same
  below : (P : ℕ → Type 0) (left : ℕ) → pack_groups (left + 1) ≤ pack_groups left → left < shop.jobs →
      ((more : ℕ) → left + 1 ≤ more → more ≤ shop.jobs → P (pack_groups more - 1)) →
      (more : ℕ) → left ≤ more → more ≤ shop.jobs → P (pack_groups more - 1)
  below P left part few there more low within = elim (cases_lt left more) [
    | inl above ↦ there more (omega (arith, above)) within
    | inr same ↦
        let is : pack_groups (left + 1) - 1 ≡ pack_groups more - 1 = omega (arith, same, low, part) in
        subst P is (there (left + 1) (omega arith) (omega (arith, few)))
  ]

  -- those of a child, with as many groups
  pub packs-below : (left : ℕ) (packs : List (Pack V)) → pack_groups (left + 1) ≤ pack_groups left →
      left < shop.jobs → ArePacks list cap width shop (left + 1) packs → ArePacks list cap width shop left packs
  packs-below left packs part few are = record {
    have = are.have;
    packed = λ more none. below (λ n. IsPack list cap width shop (slice_index_or packs n none)) left part few
        (λ other. are.packed other none) more;
    bytes = λ more none. below (λ n. AreBytes shop (slice_index_or packs n none)) left part few
        (λ other. are.bytes other none) more;
  }

  -- those of a child that has fewer, once they are packed
  pub packs-packed : (left : ℕ) (old new : List (Pack V)) → 1 ≤ left → ArePacks list cap width shop (left + 1) old →
      HavePacks shop new →
      ((place : ℕ) (none : Pack V) → place ≢ pack_groups left - 1 →
      slice_index_or new place none ≡ slice_index_or old place none) →
      ((none : Pack V) → IsPack list cap width shop (slice_index_or new (pack_groups left - 1) none)) →
      ((none : Pack V) → AreBytes shop (slice_index_or new (pack_groups left - 1) none)) →
      ArePacks list cap width shop left new
  packs-packed left old new some are have others pack bytes = record {
    have = have;
    packed = λ more none low within.
        packs-written (λ p v. IsPack list cap width shop v) old new (pack_groups left - 1) pack others
        (pack_groups more - 1) none (λ apart. are.packed more none (next more low apart) within);
    bytes = λ more none low within.
        packs-written (λ p v. AreBytes shop v) old new (pack_groups left - 1) bytes others
        (pack_groups more - 1) none (λ apart. are.bytes more none (next more low apart) within);
  }
    where
      next : (more : ℕ) → left ≤ more → pack_groups more - 1 ≢ pack_groups left - 1 → left + 1 ≤ more
      next more low apart = elim (cases_lt left more) [
        | inl above ↦ omega (arith, above)
        | inr same ↦ absurd (apart (ap (λ n. pack_groups n - 1) (omega (arith, same, low))))
      ]
