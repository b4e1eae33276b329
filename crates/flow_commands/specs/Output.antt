-- What a command answers for the block and the bytes that it is given. That memory runs out and that a device fails is
-- said in Runs.
use Rattle.std.specs.Prelude.{ℕ, List, [], Option, unwrap_or, Result}
use Rattle.flow_core.specs.Shop.{Shop}
use Rattle.flow_commands.specs.Block.{Origin}
use Rattle.flow_commands.specs.declared.refusals.CommandFault.{CommandFault}

-- an answer: the text that is written, or the first fault
abbrev pub Output : Type 0
Output = Result (List ℕ) CommandFault

-- what is answered for the shop of a block, where no second file is read
abbrev pub OfShop : (Shop → Output → Type 0) → Origin → Option (List ℕ) → Output → Type 0
OfShop Answers origin second = Answers origin.block.instance

-- what is answered for a block and the bytes of a second file; one that is left out has none
abbrev pub OfBytes : (Origin → List ℕ → Output → Type 0) → Origin → Option (List ℕ) → Output → Type 0
OfBytes Answers origin second = Answers origin (unwrap_or second [])
