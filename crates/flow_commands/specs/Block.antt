-- The block of a benchmark text that an index names.
use Rattle.std.specs.Prelude.{◌≡◌, ℕ, List, Result, Ok, Err}
use Rattle.flow_core.specs.Picks.{HasBlock, HasBlocks, IsPickFault}
use Rattle.flow_core.specs.declared.text.block.Block.{Block}
use Rattle.flow_core.specs.declared.text.pick.PickFault.TheVariants as pick
use Rattle.flow_commands.specs.declared.refusals.CommandFault.{CommandFault}
use Rattle.flow_commands.specs.declared.refusals.CommandFault.TheVariants.{Index, Text}

-- the block of a text that an index names, from 1; or the text's first fault; or that the text has no such block
abbrev pub Picks : List ℕ → ℕ → Result Block CommandFault → Type 0
Picks text index (Ok block) = HasBlock text index block
Picks text index (Err (Text fault)) = IsPickFault text index (pick.Text fault)
Picks text index (Err Index) = (count : ℕ) × IsPickFault text index (pick.Index count)
Picks text index (Err fault) = ⊥

-- a block that an index names: the text that it is from, its number there, how many blocks that has, and the block
pub record Origin : Type 0 where
  pub text : List ℕ
  pub index : ℕ
  pub count : ℕ
  pub block : Block

-- an index names a block of a text
abbrev pub IsPicked : List ℕ → ℕ → Origin → Type 0
IsPicked text index origin =
    (origin.text ≡ text) × (origin.index ≡ index) × Picks text index (Ok origin.block) × HasBlocks text origin.count
