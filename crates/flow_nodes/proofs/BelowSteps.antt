-- The marks of the children below a threshold, word by word.
use Rattle.std.proofs.Common.{◌≡◌, ◌↔◌, ℕ, ◌/◌, ◌%◌, ◌<◌, min, false, List, ◌++◌, length, slice_index, set, ap, sym}
use Rattle.std.proofs.Common.{◌∙◌, arith}
use Rattle.std.specs.Prelude.{IsBitSet, bit_and}
use Rattle.std.specs.Int.{bit_at}
use Rattle.std.proofs.lemmas.Nat.Bits.{bit_at-lt, bit_at_and, bit_at-zero}
use Rattle.flow_shop.specs.Shop.{Shop}
use Rattle.flow_shop.specs.Sequences.{has}
use Rattle.flow_shop.specs.declared.end.End.{End}
use Rattle.flow_nodes.specs.Vectors.{limit_of}
use Rattle.flow_nodes.specs.Nodes.{IsNode}
use Rattle.flow_nodes.specs.Groups.{IsGroup, child_bound}
use Rattle.flow_nodes.specs.Marks.{mark}
use Rattle.flow_nodes.specs.declared.node.Node.{Node}
use Rattle.flow_nodes.proofs.ChildBounds.{child-bound-small}
use Rattle.flow_nodes.proofs.MarkSteps.{bit-set, set-bit, mark-there}

-- the mark of a place is a bit of its word
pub word-at : (left : List ℕ) (group word place : ℕ) → word ≡ slice_index left group → place / 16 ≡ group →
    mark left place ≡ bit_at word (place % 16)
word-at left group word place word_is there =
    ap (λ g. bit_at (slice_index left g) (place % 16)) there ∙ ap (λ w. bit_at w (place % 16)) (sym word_is)

-- a word of those left is met with bits, and written
module _ (left words : List ℕ) (group bits word place : ℕ) (within : group < length words)
    (word_is : word ≡ slice_index left group) (there : place / 16 ≡ group) where
  written : mark (set words group (bit_and bits word)) place ≡ min (bit_at bits (place % 16)) (mark left place)
  written =
      mark-there words group (bit_and bits word) place within there
      ∙ bit_at_and bits word (place % 16)
      ∙ ap (λ w. min (bit_at bits (place % 16)) (bit_at w (place % 16))) word_is
      ∙ ap (λ g. min (bit_at bits (place % 16)) (bit_at (slice_index left g) (place % 16))) (sym there)

  small : mark left place < 2
  small = bit_at-lt (slice_index left (place / 16)) (place % 16)

  -- a place that is marked then was one of those left
  pub written-within : mark (set words group (bit_and bits word)) place ≡ 1 → mark left place ≡ 1
  written-within marked = omega (arith, marked, written, small)

  -- a place left is marked then just where its bit is 1
  pub written-exact : (bound threshold : ℕ) → mark left place ≡ 1 → bit_at bits (place % 16) ≡ 1 ↔ (bound < threshold) →
      mark (set words group (bit_and bits word)) place ≡ 1 ↔ (bound < threshold)
  written-exact bound threshold is tells =
      let few : bit_at bits (place % 16) < 2 = bit_at-lt bits (place % 16) in (
        λ marked. tells.0 (omega (arith, marked, written, is, few)),
        λ under. omega (arith, written, is, tells.1 under),
      )

-- a word of which no job is left is written
module _ (left words : List ℕ) (group word place : ℕ) (within : group < length words)
    (word_is : word ≡ slice_index left group) (none : word ≡ 0) (there : place / 16 ≡ group) where
  -- none of its places was left
  pub none-left : mark left place ≡ 0
  none-left =
      ap (λ g. bit_at (slice_index left g) (place % 16)) there
      ∙ ap (λ w. bit_at w (place % 16)) (sym word_is ∙ none) ∙ bit_at-zero (place % 16)

  -- and none of its places is marked then
  pub none-written : mark (set words group 0) place ≡ 0
  none-written = mark-there words group 0 place within there ∙ bit_at-zero (place % 16)

-- what the bits of a group say of one of its jobs that is left
pub lane-tells : {V : Type 0} (list : V → List ℕ) (cap width : ℕ) (wide : width ≡ 16) (shop : Shop) (threshold limit : ℕ)
    (end : End) (first last : List ℕ) (node : Node) (jobs : List ℕ) (vectors : List V) (bits lane : ℕ) →
    IsNode shop first last node → IsGroup list cap width shop jobs vectors → limit ≡ limit_of threshold →
    lane < 16 → has (first ++ last) (slice_index jobs lane) ≡ false →
    IsBitSet bits lane ↔ (child_bound shop end first last (slice_index jobs lane) < limit) →
    bit_at bits lane ≡ 1 ↔ (child_bound shop end first last (slice_index jobs lane) < threshold)
lane-tells list cap width wide shop threshold limit end first last node jobs vectors bits lane is are limit_is low fresh
    says =
    let small : child_bound shop end first last (slice_index jobs lane) < 4294967295 =
    child-bound-small shop end first last (slice_index jobs lane) node is (are.each lane (omega (arith, wide, low)))
    fresh in (
      λ one. omega (arith, limit_is, says.0 (set-bit bits lane one)),
      λ under. bit-set bits lane (says.1 (omega (arith, limit_is, under, small))),
    )
