-- The block of a benchmark text that an index names.
use Rattle.std.specs.Prelude.{ℕ, ◌≡◌, ◌-◌, ◌<◌, ◌≤◌, ◌⊎◌, List, length, slice_get, Some}
use Rattle.flow_text.specs.Text.{Reads}
use Rattle.flow_text.specs.TextFaults.{text_fault}
use Rattle.flow_text.specs.declared.text.block.Block.{Block}
use Rattle.flow_text.specs.declared.text.pick.PickFault.{PickFault}
use Rattle.flow_text.specs.declared.text.pick.PickFault.TheVariants.{Index, Text}

-- a text has this block at an index, counted from 1
abbrev pub HasBlock : List ℕ → ℕ → Block → Type 0
HasBlock text index block =
    (blocks : List Block) × Reads text blocks × (1 ≤ index) × (slice_get blocks (index - 1) ≡ Some block)

-- a text has so many blocks
abbrev pub HasBlocks : List ℕ → ℕ → Type 0
HasBlocks text count = (blocks : List Block) × Reads text blocks × (length blocks ≡ count)

-- why an index names no block of a text: the first fault of the text, or that it has no such block, but so many
abbrev pub IsPickFault : List ℕ → ℕ → PickFault → Type 0
IsPickFault text index (Text fault) = text_fault text ≡ Some fault
IsPickFault text index (Index count) = HasBlocks text count × ((index ≡ 0) ⊎ (count < index))

-- an index names one block of a text, or has one fault, and not both
pub record IsJudgedAt (text : List ℕ) (index : ℕ) : Type 0 where
  pub some : ((block : Block) × HasBlock text index block) ⊎ ((fault : PickFault) × IsPickFault text index fault)
  pub apart : (block : Block) (fault : PickFault) → HasBlock text index block → ¬ IsPickFault text index fault
  pub one : (block other : Block) → HasBlock text index block → HasBlock text index other → block ≡ other
  pub one_fault : (fault other : PickFault) → IsPickFault text index fault → IsPickFault text index other →
      fault ≡ other

-- each index of each text is judged (law: each_index_is_judged)
abbrev pub EachIndexIsJudged : Type 0
EachIndexIsJudged = (text : List ℕ) (index : ℕ) → IsJudgedAt text index
