-- What `solve` answers.
use Rattle.std.specs.Prelude.{◌≡◌, ℕ, ◌⊎◌, List, Option, Some, None, Result, Ok, Err}
use Rattle.flow_core.specs.Shop.{Shop}
use Rattle.flow_core.specs.Sequences.{IsLeastMakespan}
use Rattle.flow_search.specs.Choices.{Choices, versioned_or_fault}
use Rattle.flow_search.specs.Plans.{Planned, IsPlan, plan_fault}
use Rattle.flow_search.specs.Outcomes.{first_over_budget}
use Rattle.flow_search.specs.declared.options.OptionFault.{OptionFault}
use Rattle.flow_search.specs.declared.plan.PlanFault.{PlanFault}
use Rattle.flow_pool.specs.declared.run.solve.SolveFault.TheVariants.{Threads, OverBudget}
use Rattle.flow_check.specs.Certificate.{IsCertificate}
use Rattle.flow_cert.specs.PlanCertificates.{certificate_of}
use Rattle.flow_requests.specs.declared.SolveRequest.{SolveRequest}
use Rattle.flow_commands.specs.Output.{Output}
use Rattle.flow_commands.specs.Runs.{SinkRun, Took}
use Rattle.flow_commands.specs.Start.{StartsFrom}
use Rattle.flow_commands.specs.declared.refusals.CommandFault.TheVariants.{Choice, Plan, Run}

-- what `solve` answers for a plan: its certificate, where each tree is within the budget; or the first prefix whose
-- tree is not; or that a worker could not be started, of which nothing more is said
abbrev pub AnswersRun : Planned → Output → Type 0
AnswersRun plan (Ok text) = (first_over_budget plan ≡ None) × (text ≡ certificate_of plan)
AnswersRun plan (Err fault) =
    (fault ≡ Run Threads)
    ⊎ ((number : ℕ) × (first_over_budget plan ≡ Some number) × (fault ≡ Run (OverBudget number)))

-- what it answers for a shop, a given sequence and options: the answer for their plan, or why they have none
abbrev pub AnswersPlan : Shop → Option (List ℕ) → Choices → Output → Type 0
AnswersPlan shop given options answer =
    ((plan : Planned) × IsPlan plan × StartsFrom shop given plan.start.sequence × (plan.shop ≡ shop)
    × (plan.options ≡ options) × (plan_fault shop options ≡ None) × AnswersRun plan answer)
    ⊎ ((fault : PlanFault) × (plan_fault shop options ≡ Some fault) × (answer ≡ Err (Plan fault)))

-- the same, where the options are read
abbrev pub AnswersOptions : Shop → Option (List ℕ) → Result Choices OptionFault → Output → Type 0
AnswersOptions shop given (Ok options) answer = AnswersPlan shop given options answer
AnswersOptions shop given (Err fault) answer = answer ≡ Err (Choice fault)

-- what `solve` answers for a shop and a given sequence
abbrev pub AnswersSolve : SolveRequest → Shop → Option (List ℕ) → Output → Type 0
AnswersSolve request shop given =
    AnswersOptions shop given (versioned_or_fault request.workers request.depth request.budget request.version)

-- a sink took a lawful certificate of a shop, of its least makespan
abbrev pub WroteCertificate : {K : Type 0} → Shop → SinkRun K → Type 0
WroteCertificate shop sink =
    (certificate : List ℕ) × (value : ℕ) × Took certificate sink
    × IsCertificate shop certificate value × IsLeastMakespan shop value
