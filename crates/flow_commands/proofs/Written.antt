-- What follows of what a run wrote, by what follows of its answer.
use Rattle.std.proofs.Common.{ℕ, List, Option, None, Some, Result, Ok, Err}
use Rattle.std.specs.Prelude.{OnOk}
use Rattle.flow_core.specs.Shop.{Shop}
use Rattle.flow_commands.specs.Output.{Output}
use Rattle.flow_commands.specs.Block.{Origin}
use Rattle.flow_commands.specs.Runs.{CameBoth, CameFor, CameOf, CameSecond, CommandRun, SinkRun}
use Rattle.flow_commands.specs.Runs.{SourceRun, Took, Wrote}
use Rattle.flow_commands.specs.declared.refusals.CommandFault.{CommandFault}
use Rattle.flow_commands.specs.declared.files.FileKind.{FileKind}
use Rattle.flow_commands.proofs.Drivers.{Relation}

module _ {T K : Type 0} (kind : FileKind) (A : Option (List ℕ) → Output → Type 0) (sink : SinkRun K) where
  -- a fact that follows of the text that a sink took
  holds-of : (Holds : Type 0) (second : Option (SourceRun T)) →
      ((given : Option (List ℕ)) (text : List ℕ) → A given (Ok text) → Took text sink → Holds) →
      CameSecond kind (λ given. Wrote (A given) sink) second → Holds
  holds-of Holds None implies (text, answers, took) = implies None text answers took
  holds-of Holds (Some file) implies (bytes, within, gave, whole, (text, answers, took)) =
      implies (Some bytes) text answers took

  -- a fact of the second file that follows of the text
  second-holds : (Holds : Option (List ℕ) → Type 0) (second : Option (SourceRun T)) →
      ((given : Option (List ℕ)) (text : List ℕ) → A given (Ok text) → Took text sink → Holds given) →
      CameSecond kind (λ given. Wrote (A given) sink) second → CameSecond kind Holds second
  second-holds Holds None implies (text, answers, took) = implies None text answers took
  second-holds Holds (Some file) implies (bytes, within, gave, whole, (text, answers, took)) =
      (bytes, within, gave, whole, implies (Some bytes) text answers took)

-- what follows for the block of a text that came
came-of : {S : Type 0} (index : ℕ) (Holds Follows : Origin → Type 0) (text : SourceRun S)
    (result : Result (Unit {0}) CommandFault) → ((origin : Origin) → Holds origin → Follows origin) →
    OnOk result (CameOf index Holds text) → OnOk result (CameOf index Follows text)
came-of index Holds Follows text (Err fault) implies came = tt
came-of index Holds Follows text (Ok done) implies (bytes, within, gave, whole, (origin, picked, holds)) =
    (bytes, within, gave, whole, (origin, picked, implies origin holds))

-- a fact of the shop that follows of what is written
pub came-for : {S T K : Type 0} (kind : FileKind) (A : Relation) (index : ℕ) (run : CommandRun S T K)
    (result : Result (Unit {0}) CommandFault) (Holds : Shop → Type 0) →
    ((origin : Origin) (given : Option (List ℕ)) (text : List ℕ) → A origin given (Ok text) → Took text run.sink →
    Holds origin.block.instance) → OnOk result (CameBoth kind index (λ o given. Wrote (A o given) run.sink) run) →
    OnOk result (CameFor index Holds run.text)
came-for kind A index run result Holds implies =
    came-of index (λ origin. CameSecond kind (λ given. Wrote (A origin given) run.sink) run.second)
    (λ origin. Holds origin.block.instance) run.text result
    (λ origin. holds-of kind (A origin) run.sink (Holds origin.block.instance) run.second (implies origin))

-- a fact of the block and of the second file that follows of what is written
pub came-both : {S T K : Type 0} (kind : FileKind) (A : Relation) (index : ℕ) (run : CommandRun S T K)
    (result : Result (Unit {0}) CommandFault) (Holds : Origin → Option (List ℕ) → Type 0) →
    ((origin : Origin) (given : Option (List ℕ)) (text : List ℕ) → A origin given (Ok text) → Took text run.sink →
    Holds origin given) → OnOk result (CameBoth kind index (λ o given. Wrote (A o given) run.sink) run) →
    OnOk result (CameBoth kind index Holds run)
came-both kind A index run result Holds implies =
    came-of index (λ origin. CameSecond kind (λ given. Wrote (A origin given) run.sink) run.second)
    (λ origin. CameSecond kind (Holds origin) run.second) run.text result
    (λ origin. second-holds kind (A origin) run.sink (Holds origin) run.second (implies origin))
