-- What `check` answers.
use Rattle.std.specs.Prelude.{◌≡◌, ◌≢◌, ℕ, ◌⊎◌, false, true, cond, nat_eq, List, ◌++◌, Some, None, Ok, Err}
use Rattle.flow_core.specs.Shop.{Shop}
use Rattle.flow_core.specs.Paths.{span}
use Rattle.flow_core.specs.Sequences.{IsLeastMakespan, IsSequence}
use Rattle.flow_check.specs.Bounds.{AreProved}
use Rattle.flow_check.specs.Counted.{most_nodes}
use Rattle.flow_check.specs.Faults.{HasFaultAs, IsUnlawfulAs}
use Rattle.flow_check.specs.Kinds.{IsReadAs}
use Rattle.flow_check.specs.Stated.{GivesAs}
use Rattle.flow_check.specs.declared.bounds.Bounds.{Bounds}
use Rattle.flow_check.specs.declared.fault.CheckFault.{CheckFault}
use Rattle.flow_check.specs.declared.kind.TextKind.{TextKind}
use Rattle.flow_check.specs.declared.kind.TextKind.TheVariants.{Certificate}
use Rattle.flow_requests.specs.declared.CheckOutput.{CheckOutput}
use Rattle.flow_requests.specs.declared.CheckOutput.TheVariants.{Proved, Report, Sequence}
use Rattle.flow_requests.specs.declared.CheckRequest.{CheckRequest}
use Rattle.flow_commands.specs.Output.{Output}
use Rattle.flow_commands.specs.Block.{Origin}
use Rattle.flow_commands.specs.Certify.{workers_fault}
use Rattle.flow_commands.specs.Printed.{bounds_line, optimal_line, sequence_lines}
use Rattle.flow_commands.specs.Report.{report_lines}
use Rattle.flow_commands.specs.Runs.{SinkRun, Took}
use Rattle.flow_commands.specs.declared.refusals.CommandFault.{CommandFault}
use Rattle.flow_commands.specs.declared.refusals.CommandFault.TheVariants as command

-- the line of the bounds that a text proves: of the least makespan, where they are one number
abbrev pub proved_line : Bounds → List ℕ
proved_line bounds =
    cond (nat_eq bounds.lower bounds.upper) (optimal_line bounds.lower) (bounds_line bounds.lower bounds.upper)

-- what is printed, of a block and the bytes of a lawful text: the line of the bounds; or the sequence and its makespan;
-- or that line and a report
abbrev pub printed_text : CheckOutput → Origin → TextKind → List ℕ → Bounds → List ℕ → List ℕ
printed_text Proved origin kind bytes bounds jobs = proved_line bounds
printed_text Sequence origin kind bytes bounds jobs = sequence_lines origin.block.instance jobs
printed_text Report origin kind bytes bounds jobs =
    proved_line bounds ++ report_lines origin kind bytes

-- bounds suffice for a request: where the optimum is asked for, they are one number
abbrev pub SufficesFor : CheckRequest → Bounds → Type 0
SufficesFor request bounds = request.optimal ≡ true → bounds.lower ≡ bounds.upper

-- bounds fall short of a request: the optimum is asked for, and they differ
abbrev pub FallsShortOf : CheckRequest → Bounds → Type 0
FallsShortOf request bounds = (request.optimal ≡ true) × (bounds.lower ≢ bounds.upper)

-- a fault names the bounds of a lawful text, since these fall short
abbrev pub RefusesBounds : TextKind → CheckRequest → Shop → List ℕ → CommandFault → Type 0
RefusesBounds kind request shop bytes fault =
    (bounds : Bounds) × (jobs : List ℕ) × GivesAs kind shop bytes bounds jobs
    × FallsShortOf request bounds × (fault ≡ command.Bounds bounds.lower bounds.upper)

-- a fault is the first one of a text, for a reader who allows so many nodes: the text is not lawful, or states more
abbrev pub RefusesText : TextKind → ℕ → Shop → List ℕ → CommandFault → Type 0
RefusesText kind most shop bytes fault =
    (first : CheckFault) × HasFaultAs kind most shop bytes first × IsUnlawfulAs kind shop bytes first
    × (fault ≡ command.Certificate first)

-- what `check` answers for a block and bytes that are read as a text of a kind: what is printed of a lawful text, where
-- its bounds suffice
abbrev pub AnswersAs : TextKind → CheckRequest → Origin → List ℕ → Output → Type 0
AnswersAs kind request origin bytes (Ok text) =
    (bounds : Bounds) × (jobs : List ℕ) × GivesAs kind origin.block.instance bytes bounds jobs
    × SufficesFor request bounds × (text ≡ printed_text request.output origin kind bytes bounds jobs)
AnswersAs kind request origin bytes (Err fault) =
    RefusesText kind request.most origin.block.instance bytes fault
    ⊎ RefusesBounds kind request origin.block.instance bytes fault

-- what `check` answers for a block and the bytes of a text; or why its number of workers is refused, which changes
-- nothing else
abbrev pub AnswersCheck : CheckRequest → Origin → List ℕ → Output → Type 0
AnswersCheck request origin bytes answer = elim (workers_fault request.workers) [
  | Some fault ↦ answer ≡ Err fault
  | None ↦ (kind : TextKind) × IsReadAs bytes kind × AnswersAs kind request origin bytes answer
]

-- what `check` answers for a block and bytes where certificates with trees alone are accepted, and the bounds are asked
-- for
abbrev pub AnswersTrees : Origin → List ℕ → Output → Type 0
AnswersTrees =
    AnswersAs Certificate (record { output = Proved; optimal = false; most = most_nodes; workers = 1 })

-- what a text of a kind proves of the shop: its bounds are proved, and those of a certificate are one number
abbrev pub ProvesAs : TextKind → Shop → Bounds → Type 0
ProvesAs kind shop bounds = AreProved shop bounds × (kind ≡ Certificate → bounds.lower ≡ bounds.upper)

-- what is answered is true of the shop: the bounds that are printed are proved by a text of the kind of the bytes, and
-- suffice; or the sequence has the upper one
abbrev pub SaysProved : CheckRequest → Origin → List ℕ → Output → Type 0
SaysProved request origin bytes (Ok text) =
    (kind : TextKind) × IsReadAs bytes kind
    × (bounds : Bounds) × ProvesAs kind origin.block.instance bounds × SufficesFor request bounds
    × (jobs : List ℕ) × IsSequence origin.block.instance.jobs jobs
    × (span origin.block.instance jobs ≡ bounds.upper)
    × (text ≡ printed_text request.output origin kind bytes bounds jobs)
SaysProved request origin bytes (Err fault) = ⊥

-- a sink took the line of the least makespan of a shop
abbrev pub WroteLeast : {K : Type 0} → Shop → SinkRun K → Type 0
WroteLeast shop sink = (value : ℕ) × IsLeastMakespan shop value × Took (optimal_line value) sink

-- a sink took the line of the least makespan of a shop, alone or before a report; or, where the sequence is asked for,
-- one that has it
abbrev pub WroteOptimum : {K : Type 0} → CheckOutput → Shop → SinkRun K → Type 0
WroteOptimum Proved shop sink = WroteLeast shop sink
WroteOptimum Sequence shop sink =
    (jobs : List ℕ) × IsSequence shop.jobs jobs × IsLeastMakespan shop (span shop jobs)
    × Took (sequence_lines shop jobs) sink
WroteOptimum Report shop sink =
    (value : ℕ) × IsLeastMakespan shop value × (report : List ℕ) × Took (optimal_line value ++ report) sink
