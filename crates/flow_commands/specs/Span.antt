-- What `span` answers.
use Rattle.std.specs.Prelude.{◌≡◌, ℕ, List, Some, None, Ok, Err}
use Rattle.flow_core.specs.Shop.{Shop}
use Rattle.flow_core.specs.Paths.{span}
use Rattle.flow_core.specs.SequenceFaults.{sequence_fault}
use Rattle.flow_commands.specs.Output.{Output}
use Rattle.flow_commands.specs.Printed.{makespan_line}
use Rattle.flow_commands.specs.declared.refusals.CommandFault.TheVariants.{Sequence}

-- the makespan of the jobs in this order, or their first fault
abbrev pub span_answer : Shop → List ℕ → Output
span_answer shop jobs =
    elim (sequence_fault shop.jobs jobs)
    [ None ↦ Ok (makespan_line (span shop jobs)) | Some fault ↦ Err (Sequence fault) ]

-- what `span` answers for a shop
abbrev pub AnswersSpan : List ℕ → Shop → Output → Type 0
AnswersSpan jobs shop answer = answer ≡ span_answer shop jobs
