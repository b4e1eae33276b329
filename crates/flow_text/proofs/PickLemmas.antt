-- An index names one block of a text, or has one fault.
use Rattle.std.proofs.Common.{◌≡◌, ◌⊎◌, refl, inl, inr, ℕ, zero, suc, ◌-◌, ◌<◌, ◌≤◌, List, length, get_or, arith}
use Rattle.std.proofs.Common.{Option, Some, None}
use Rattle.std.specs.Prelude.{slice_get}
use Rattle.std.proofs.lemmas.Option.{slice_get_cases, slice_get_within}
use Rattle.flow_text.specs.Picks.{HasBlock, IsPickFault, EachIndexIsJudged}
use Rattle.flow_text.specs.Text.{Reads}
use Rattle.flow_text.specs.TextFaults.{text_fault}
use Rattle.flow_text.specs.declared.text.block.Block.{Block}
use Rattle.flow_text.specs.declared.text.fault.TextFault.{TextFault}
use Rattle.flow_text.specs.declared.text.pick.PickFault.{PickFault}
use Rattle.flow_text.specs.declared.text.pick.PickFault.TheVariants.{Index, Text}
use Rattle.flow_text.proofs.TextAnswers.{none-reads, reads-none, reads-one}

-- a block, or a fault
abbrev Judgement : List ℕ → ℕ → Type 0
Judgement text index =
    ((block : Block) × HasBlock text index block) ⊎ ((fault : PickFault) × IsPickFault text index fault)

-- of a text with a reading
of-blocks : (text : List ℕ) (index : ℕ) (blocks : List Block) → Reads text blocks → Judgement text index
of-blocks text zero blocks reads = inr (Index (length blocks), ((blocks, reads, refl), inl refl))
of-blocks text (suc before) blocks reads = at (slice_get_cases blocks (suc before - 1)).1
  where
    at : ((block : Block) × (suc before - 1 < length blocks) × (slice_get blocks (suc before - 1) ≡ Some block)
        × (get_or blocks (suc before - 1) block ≡ block))
        ⊎ ((length blocks ≤ suc before - 1) × (slice_get blocks (suc before - 1) ≡ None)) → Judgement text (suc before)
    at (inl (block, within, is, same)) = inl (block, (blocks, reads, omega arith, is))
    at (inr (past, none)) = inr (Index (length blocks), ((blocks, reads, refl), inr (omega arith)))

-- of each text
judgement : (text : List ℕ) (index : ℕ) → Judgement text index
judgement text index = go (text_fault text) refl
  where
    go : (fault : Option TextFault) → text_fault text ≡ fault → Judgement text index
    go (Some fault) is = inr (Text fault, is)
    go None is = let read : (blocks : List Block) × Reads text blocks = none-reads text is in
        of-blocks text index read.0 read.1

-- a block and a fault exclude each other
apart : (text : List ℕ) (index : ℕ) (block : Block) (fault : PickFault) → HasBlock text index block →
    ¬ IsPickFault text index fault
apart text index block (Text fault) (blocks, reads, from, is) faulty =
    let none : text_fault text ≡ None = reads-none text blocks reads in cc
apart text index block (Index count) (blocks, reads, from, is) ((others, more, counted), inl zero_is) = omega arith
apart text index block (Index count) (blocks, reads, from, is) ((others, more, counted), inr beyond) =
    let same : blocks ≡ others = reads-one text blocks others reads more in
    let within : index - 1 < length blocks = slice_get_within blocks (index - 1) block is in
    let within : index - 1 < length others = rw same at within in
    omega arith

-- there is one block at most
one-block : (text : List ℕ) (index : ℕ) (block other : Block) → HasBlock text index block → HasBlock text index other →
    block ≡ other
one-block text index block other (blocks, reads, from, is) (others, more, again, that) =
    let same : blocks ≡ others = reads-one text blocks others reads more in cc

-- there is one fault at most
one-fault : (text : List ℕ) (index : ℕ) (fault other : PickFault) → IsPickFault text index fault →
    IsPickFault text index other → fault ≡ other
one-fault text index (Text fault) (Text other) is that = cc
one-fault text index (Text fault) (Index count) is ((blocks, reads, counted), out) =
    let none : text_fault text ≡ None = reads-none text blocks reads in cc
one-fault text index (Index count) (Text other) ((blocks, reads, counted), out) that =
    let none : text_fault text ≡ None = reads-none text blocks reads in cc
one-fault text index (Index count) (Index number) ((blocks, reads, counted), out) ((others, more, again), that) =
    let same : blocks ≡ others = reads-one text blocks others reads more in cc

-- each index of each text is judged
pub each_index_is_judged : EachIndexIsJudged
each_index_is_judged text index = record {
  some = judgement text index;
  apart = apart text index;
  one = one-block text index;
  one_fault = one-fault text index;
}
