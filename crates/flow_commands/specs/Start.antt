-- The sequence from which a search starts.
use Rattle.std.specs.Prelude.{◌≡◌, ◌≢◌, ◌⊎◌, ℕ, List, Option, Some, None, IfSome, Result, Ok, Err}
use Rattle.flow_core.specs.Shop.{Shop}
use Rattle.flow_core.specs.Paths.{span}
use Rattle.flow_core.specs.Sequences.{IsSequence}
use Rattle.flow_core.specs.SequenceFaults.{sequence_fault}
use Rattle.flow_core.specs.StartText.{HasStartFault, IsStart}
use Rattle.flow_core.specs.declared.text.start.Claim.{Claim}
use Rattle.flow_core.specs.declared.text.start.StartFault.TheVariants.{Line}
use Rattle.flow_bound.specs.Neh.{IsNeh}
use Rattle.flow_commands.specs.Output.{Output}
use Rattle.flow_commands.specs.Block.{Origin}
use Rattle.flow_commands.specs.declared.refusals.CommandFault.{CommandFault}
use Rattle.flow_commands.specs.declared.refusals.CommandFault.TheVariants.{Sequence, Start}

-- what a start text gives for a shop: its jobs, which are a sequence with the makespan that they are said to have; or
-- the first fault: of the text; of its jobs; or the line of the claim, where their makespan is another one
-- (law: each_start_gives_one)
abbrev pub GivesStart : Shop → List ℕ → Result (List ℕ) CommandFault → Type 0
GivesStart shop text (Ok jobs) =
    (claim : Option Claim) × IsStart text (record { jobs = jobs; claim = claim }) × IsSequence shop.jobs jobs
    × IfSome claim (λ said. said.makespan ≡ span shop jobs)
GivesStart shop text (Err (Sequence fault)) =
    (jobs : List ℕ) × (claim : Option Claim) × IsStart text (record { jobs = jobs; claim = claim })
    × (sequence_fault shop.jobs jobs ≡ Some fault)
GivesStart shop text (Err (Start fault)) =
    HasStartFault text fault
    ⊎ ((jobs : List ℕ) × (claim : Claim) × IsStart text (record { jobs = jobs; claim = Some claim })
    × IsSequence shop.jobs jobs × (claim.makespan ≢ span shop jobs) × (fault ≡ Line claim.line))
GivesStart shop text (Err fault) = ⊥

-- for each shop, each text gives one sequence as a start, or one fault (law: each_start_gives_one)
abbrev pub EachStartGivesOne : Type 0
EachStartGivesOne =
    (shop : Shop) (text : List ℕ) → (given : Result (List ℕ) CommandFault) × GivesStart shop text given
    × ((other : Result (List ℕ) CommandFault) → GivesStart shop text other → other ≡ given)

-- the sequence to start from: the one that was given, or, where none was, that of Nawaz, Enscore and Ham
abbrev pub StartsFrom : Shop → Option (List ℕ) → List ℕ → Type 0
StartsFrom shop (Some given) start = start ≡ given
StartsFrom shop None start = IsNeh shop start

-- what is answered for the sequence that a start text gives for a shop, or the fault that it gives
abbrev pub FromText : (Shop → List ℕ → Output → Type 0) → Shop → List ℕ → Output → Type 0
FromText Answers shop text answer =
    ((jobs : List ℕ) × GivesStart shop text (Ok jobs) × Answers shop jobs answer)
    ⊎ ((fault : CommandFault) × GivesStart shop text (Err fault) × (answer ≡ Err fault))

-- what is answered for the shop of a block and the sequence of a start text, or without one where there is no such text
abbrev pub FromStart :
    (Shop → Option (List ℕ) → Output → Type 0) → Origin → Option (List ℕ) → Output → Type 0
FromStart Answers origin None answer = Answers origin.block.instance None answer
FromStart Answers origin (Some text) answer =
    FromText (λ shop jobs. Answers shop (Some jobs)) origin.block.instance text answer
