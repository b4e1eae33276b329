-- What `improve` answers.
use Rattle.std.specs.Prelude.{◌≡◌, ℕ, ◌≤◌, List, Option, Some, None, Ok, Err}
use Rattle.std.specs.Option.{option_map}
use Rattle.flow_core.specs.Shop.{Shop}
use Rattle.flow_core.specs.Paths.{span}
use Rattle.flow_core.specs.Sequences.{IsSequence}
use Rattle.flow_improve.specs.Effort.{effort_fault}
use Rattle.flow_requests.specs.declared.ImproveRequest.{ImproveRequest}
use Rattle.flow_commands.specs.Output.{Output}
use Rattle.flow_commands.specs.Printed.{sequence_lines}
use Rattle.flow_commands.specs.Start.{StartsFrom}
use Rattle.flow_commands.specs.declared.refusals.CommandFault.{CommandFault}
use Rattle.flow_commands.specs.declared.refusals.CommandFault.TheVariants.{Improve}

-- why `improve` refuses its numbers, if it does
abbrev pub improve_fault : ImproveRequest → Option CommandFault
improve_fault request =
    option_map Improve (effort_fault request.width request.rounds request.seed request.work)

-- a sequence whose makespan is at most that of the one to start from
abbrev pub IsImproved : Shop → Option (List ℕ) → List ℕ → Type 0
IsImproved shop given jobs =
    (start : List ℕ) × StartsFrom shop given start × IsSequence shop.jobs jobs × (span shop jobs ≤ span shop start)

-- what `improve` answers for a shop and a given sequence: the lines of a sequence that is no worse than the one to
-- start from, or why its numbers are refused
abbrev pub AnswersImprove : ImproveRequest → Shop → Option (List ℕ) → Output → Type 0
AnswersImprove request shop given answer = elim (improve_fault request) [
  | Some fault ↦ answer ≡ Err fault
  | None ↦ (jobs : List ℕ) × IsImproved shop given jobs × (answer ≡ Ok (sequence_lines shop jobs))
]
