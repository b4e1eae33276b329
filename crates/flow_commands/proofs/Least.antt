-- What is printed of a certificate is true, and where its bounds are one number, it is the least makespan.
use Rattle.std.proofs.Common.{◌≡◌, ◌∙◌, ◌++◌, ◌⊎◌, inl, inr, refl, sym, ap, subst, ℕ, List, true, cond}
use Rattle.std.proofs.Common.{Option, Some, None, Ok, Err}
use Rattle.std.proofs.lemmas.Bool.{eq-eqb}
use Rattle.flow_core.specs.Paths.{span}
use Rattle.flow_core.specs.Sequences.{IsLeastMakespan, IsSequence}
use Rattle.flow_core.specs.Shop.{Shop}
use Rattle.flow_check.specs.Bounds.{AreProved}
use Rattle.flow_check.specs.Kinds.{IsReadAs}
use Rattle.flow_check.specs.Stated.{GivesAs}
use Rattle.flow_check.specs.declared.bounds.Bounds.{Bounds}
use Rattle.flow_check.specs.declared.kind.TextKind.{TextKind}
use Rattle.flow_check.specs.declared.kind.TextKind.TheVariants.{Certificate}
use Rattle.flow_check.proofs.TextGiven.{given-bounds, given-sequence, given-upper, least-of}
use Rattle.flow_requests.specs.declared.CheckOutput.{CheckOutput}
use Rattle.flow_requests.specs.declared.CheckOutput.TheVariants.{Proved, Report, Sequence}
use Rattle.flow_requests.specs.declared.CheckRequest.{CheckRequest}
use Rattle.flow_commands.specs.Output.{Output}
use Rattle.flow_commands.specs.Block.{Origin}
use Rattle.flow_commands.specs.Certify.{workers_fault}
use Rattle.flow_commands.specs.Check.{AnswersAs, AnswersCheck, AnswersTrees, SaysProved, WroteLeast, WroteOptimum}
use Rattle.flow_commands.specs.Check.{printed_text, proved_line}
use Rattle.flow_commands.specs.Printed.{bounds_line, optimal_line}
use Rattle.flow_commands.specs.Report.{report_lines}
use Rattle.flow_commands.specs.Runs.{SinkRun, Took}
use Rattle.flow_commands.specs.declared.refusals.CommandFault.{CommandFault}
use Rattle.flow_commands.specs.declared.refusals.CommandFault.TheVariants.{Memory}

-- what `check` answers where its number of workers is accepted
abbrev AnswersSome : CheckRequest → Origin → List ℕ → Output → Type 0
AnswersSome request origin bytes answer =
    (kind : TextKind) × IsReadAs bytes kind × AnswersAs kind request origin bytes answer

-- what is answered for bytes that are read as a text of a kind is answered by `check`
pub of-kind : (kind : TextKind) (request : CheckRequest) (origin : Origin) (bytes : List ℕ) (answer : Output) →
    workers_fault request.workers ≡ None → IsReadAs bytes kind → AnswersAs kind request origin bytes answer →
    AnswersCheck request origin bytes answer
of-kind kind request origin bytes answer accepted read answers = rw (AnswersCheck, accepted) (kind, read, answers)

pub refused-of-kind : (kind : TextKind) (request : CheckRequest) (origin : Origin) (bytes : List ℕ)
    (fault : CommandFault) → workers_fault request.workers ≡ None → IsReadAs bytes kind →
    (fault ≡ Memory) ⊎ AnswersAs kind request origin bytes (Err fault) →
    (fault ≡ Memory) ⊎ AnswersCheck request origin bytes (Err fault)
refused-of-kind kind request origin bytes fault accepted read (inl memory) = inl memory
refused-of-kind kind request origin bytes fault accepted read (inr answers) =
    inr (of-kind kind request origin bytes (Err fault) accepted read answers)

-- a number of workers that is refused is answered by its fault
pub refused-workers : (request : CheckRequest) (origin : Origin) (bytes : List ℕ) (fault : CommandFault) →
    workers_fault request.workers ≡ Some fault → AnswersCheck request origin bytes (Err fault)
refused-workers request origin bytes fault e = rw (AnswersCheck, e) refl

-- where a text is answered, the number of workers was accepted
some-of : (request : CheckRequest) (origin : Origin) (bytes text : List ℕ) →
    AnswersCheck request origin bytes (Ok text) → AnswersSome request origin bytes (Ok text)
some-of request origin bytes text answers = go (workers_fault request.workers) refl
  where
    go : (refusal : Option CommandFault) → workers_fault request.workers ≡ refusal →
        AnswersSome request origin bytes (Ok text)
    go (Some fault) e =
        let never : ◌≡◌ {A = Output} (Ok text) (Err fault) = rw (AnswersCheck, e) at answers in
        absurd cc
    go None e = rw (AnswersCheck, e) at answers

-- the bounds of a lawful text are proved
pub proved-of : (kind : TextKind) (shop : Shop) (bytes jobs : List ℕ) (bounds : Bounds) →
    GivesAs kind shop bytes bounds jobs → AreProved shop bounds
proved-of kind shop bytes jobs bounds gives =
    let are = given-bounds kind shop bytes bounds jobs gives in
    record { hold = are; least = least-of shop bounds are }

-- the bounds of a certificate with trees are one number
one-number : (shop : Shop) (bytes jobs : List ℕ) (bounds : Bounds) → GivesAs Certificate shop bytes bounds jobs →
    bounds.lower ≡ bounds.upper
one-number shop bytes jobs bounds gives =
    ap (λ (b : Bounds). b.lower) gives.1 ∙ sym (ap (λ (b : Bounds). b.upper) gives.1)

-- what is answered is true
pub says-proved : (request : CheckRequest) (origin : Origin) (bytes text : List ℕ) →
    AnswersCheck request origin bytes (Ok text) → SaysProved request origin bytes (Ok text)
says-proved request origin bytes text answers = go (some-of request origin bytes text answers)
  where
    go : AnswersSome request origin bytes (Ok text) → SaysProved request origin bytes (Ok text)
    go (kind, taken, (bounds, jobs, gives, suffices, is)) =
        let shop = origin.block.instance in (
          kind,
          taken,
          bounds,
          (
            proved-of kind shop bytes jobs bounds gives,
            λ same. one-number shop bytes jobs bounds (subst (λ k. GivesAs k shop bytes bounds jobs) same gives),
          ),
          suffices,
          jobs,
          given-sequence kind shop bytes bounds jobs gives,
          given-upper kind shop bytes bounds jobs gives,
          is,
        )

-- they are printed as the optimum
line-of-one : (bounds : Bounds) → bounds.lower ≡ bounds.upper → proved_line bounds ≡ optimal_line bounds.lower
line-of-one bounds same =
    ap (λ b. cond b (optimal_line bounds.lower) (bounds_line bounds.lower bounds.upper))
    (eq-eqb bounds.lower bounds.upper same)

-- a sink took the line of proved bounds that are one number, or a sequence that has it
optimum-of : {K : Type 0} (output : CheckOutput) (origin : Origin) (kind : TextKind) (sink : SinkRun K)
    (bytes text jobs : List ℕ) (bounds : Bounds) → AreProved origin.block.instance bounds →
    IsSequence origin.block.instance.jobs jobs → span origin.block.instance jobs ≡ bounds.upper →
    bounds.lower ≡ bounds.upper → text ≡ printed_text output origin kind bytes bounds jobs → Took text sink →
    WroteOptimum output origin.block.instance sink
optimum-of Proved origin kind sink bytes text jobs bounds proved is attains same prints took =
    (bounds.lower, proved.least same, subst (λ t. Took t sink) (prints ∙ line-of-one bounds same) took)
optimum-of Sequence origin kind sink bytes text jobs bounds proved is attains same prints took = (
  jobs,
  is,
  subst (IsLeastMakespan origin.block.instance) (same ∙ sym attains) (proved.least same),
  subst (λ t. Took t sink) prints took,
)
optimum-of Report origin kind sink bytes text jobs bounds proved is attains same prints took =
    let report = report_lines origin kind bytes in (
      bounds.lower,
      proved.least same,
      report,
      subst (λ t. Took t sink) (prints ∙ ap (λ line. line ++ report) (line-of-one bounds same)) took,
    )

-- where the optimum is asked for, what is written is of the least makespan
pub wrote-optimum : {K : Type 0} (request : CheckRequest) (origin : Origin) (sink : SinkRun K) (bytes text : List ℕ) →
    request.optimal ≡ true → AnswersCheck request origin bytes (Ok text) → Took text sink →
    WroteOptimum request.output origin.block.instance sink
wrote-optimum request origin sink bytes text asked answers took =
    let says = says-proved request origin bytes text answers in
    optimum-of request.output origin says.0 sink bytes text says.5 says.2 says.3.0 says.6 says.7 (says.4 asked) says.8
    took

-- what is written where certificates with trees alone are accepted is the least makespan
pub wrote-least : {K : Type 0} (origin : Origin) (sink : SinkRun K) (bytes text : List ℕ) →
    AnswersTrees origin bytes (Ok text) → Took text sink → WroteLeast origin.block.instance sink
wrote-least origin sink bytes text (bounds, jobs, gives, suffices, prints) took =
    let shop = origin.block.instance in
    optimum-of Proved origin Certificate sink bytes text jobs bounds
    (proved-of Certificate shop bytes jobs bounds gives) (given-sequence Certificate shop bytes bounds jobs gives)
    (given-upper Certificate shop bytes bounds jobs gives) (one-number shop bytes jobs bounds gives) prints took
