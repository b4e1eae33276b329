-- What commands answer is true of the shop.
use Rattle.std.proofs.Common.{◌≡◌, refl, subst, inl, inr, true, unwrap_or, ℕ, List, [], length, Option, Some, None}
use Rattle.std.proofs.Common.{Result, Ok, Err}
use Rattle.std.specs.Prelude.{IfSome, OnOk}
use Rattle.flow_core.specs.Sequences.{IsLowerBound, IsSequence}
use Rattle.flow_core.specs.Shop.{Shop}
use Rattle.flow_check.specs.declared.kind.TextKind.TheVariants.{TwoEnded}
use Rattle.flow_check.proofs.Sound.{certificate_is_sound}
use Rattle.flow_check.proofs.TextGiven.{given-bounds, given-sequence}
use Rattle.flow_cert.proofs.Lawful.{plan_is_certified}
use Rattle.flow_cert.specs.PlanCertificates.{certificate_of}
use Rattle.flow_requests.specs.declared.CertifyRequest.{CertifyRequest}
use Rattle.flow_requests.specs.declared.Request.{Request}
use Rattle.flow_requests.specs.declared.Request.TheVariants.{Certify, Check, Improve, Neh, Schedule, Signs, Solve, Span}
use Rattle.flow_requests.specs.declared.ScheduleForm.{ScheduleForm}
use Rattle.flow_requests.specs.declared.SolveRequest.{SolveRequest}
use Rattle.flow_search.specs.Choices.{Choices}
use Rattle.flow_search.specs.Plans.{verdict_of}
use Rattle.flow_search.specs.declared.options.OptionFault.{OptionFault}
use Rattle.flow_commands.specs.Output.{Output}
use Rattle.flow_commands.specs.Block.{Origin}
use Rattle.flow_commands.specs.Certify.{AnswersCertify, Certifies, WroteProof, certify_fault, is_signed, proof_kind}
use Rattle.flow_commands.specs.Request.{SaysTrue, answers}
use Rattle.flow_commands.specs.Runs.{CameBoth, CommandRun, Ran, SinkRun, Took}
use Rattle.flow_commands.specs.Schedule.{AnswersSchedule, GivesTimed, WroteSchedule}
use Rattle.flow_commands.specs.Signs.{AnswersSigns}
use Rattle.flow_commands.specs.Solve.{AnswersOptions, AnswersSolve, WroteCertificate}
use Rattle.flow_search.specs.Choices.{versioned_or_fault}
use Rattle.flow_commands.specs.Start.{FromStart}
use Rattle.flow_commands.specs.declared.refusals.CommandFault.{CommandFault}
use Rattle.flow_commands.specs.declared.files.FileKind.{FileKind}
use Rattle.flow_commands.specs.declared.timed.TimedSequence.{TimedSequence}
use Rattle.flow_commands.proofs.Certified.{read-as}
use Rattle.flow_commands.proofs.Least.{proved-of, says-proved, wrote-optimum}
use Rattle.flow_commands.proofs.Written.{came-both}

-- a text that is answered for a start is answered for some sequence, or for none
from-start : (A : Shop → Option (List ℕ) → Output → Type 0) (origin : Origin) (given : Option (List ℕ))
    (text : List ℕ) → FromStart A origin given (Ok text) →
    (jobs : Option (List ℕ)) × A origin.block.instance jobs (Ok text)
from-start A origin None text answers = (None, answers)
from-start A origin (Some start) text (inl (jobs, gives, answers)) = (Some jobs, answers)
from-start A origin (Some start) text (inr (fault, gives, never)) = cc

-- what `solve` writes is a lawful certificate, of the least makespan
of-options : {K : Type 0} (shop : Shop) (given : Option (List ℕ)) (options : Result Choices OptionFault)
    (text : List ℕ) (sink : SinkRun K) → AnswersOptions shop given options (Ok text) → Took text sink →
    WroteCertificate shop sink
of-options shop given (Err fault) text sink never took = cc
of-options shop given (Ok options) text sink (inr (fault, is, never)) took = cc
of-options {K} shop given (Ok options) text sink (inl (plan, is_plan, start, of, chosen, none, (within, is))) took =
    let lawful = plan_is_certified plan is_plan in
    subst (λ (s : Shop). WroteCertificate {K = K} s sink) of (
      certificate_of plan,
      (verdict_of plan).value,
      subst (λ t. Took t sink) is took,
      lawful,
      certificate_is_sound plan.shop (certificate_of plan) (verdict_of plan).value lawful,
    )

pub solve-is-lawful : {K : Type 0} (request : SolveRequest) (sink : SinkRun K) (origin : Origin)
    (given : Option (List ℕ)) (text : List ℕ) → FromStart (AnswersSolve request) origin given (Ok text) →
    Took text sink → WroteCertificate origin.block.instance sink
solve-is-lawful request sink origin given text answers took =
    let from = from-start (AnswersSolve request) origin given text answers in
    of-options origin.block.instance from.0
    (versioned_or_fault request.workers request.depth request.budget request.version) text sink from.1 took

-- the bounds of what `certify` writes are proved
of-numbers : {K : Type 0} (request : CertifyRequest) (shop : Shop) (given : Option (List ℕ)) (text : List ℕ)
    (sink : SinkRun K) → AnswersCertify request shop given (Ok text) → Took text sink → WroteProof shop sink
of-numbers {K} request shop given text sink answers took = go (certify_fault request) refl
  where
    go : (refusal : Option CommandFault) → certify_fault request ≡ refusal → WroteProof shop sink
    go (Some fault) e =
        let never : ◌≡◌ {A = Output} (Ok text) (Err fault) = rw (AnswersCertify, e) at answers in
        absurd cc
    go None e =
        let found : (own : List ℕ) × Certifies shop given request own
        × ◌≡◌ {A = Output} (Ok text) (Ok own) =
        rw (AnswersCertify, e) at answers in
        let here : text ≡ found.0 = let same = found.2 in cc in
        let is = found.1 in
        let kind = proof_kind (is_signed request is.directions) in (
          found.0,
          kind,
          is.bounds,
          is.jobs,
          subst (λ t. Took t sink) here took,
          is.read,
          is.lawful,
          proved-of kind shop found.0 is.jobs is.bounds is.lawful,
        )

pub certify-is-lawful : {K : Type 0} (request : CertifyRequest) (sink : SinkRun K) (origin : Origin)
    (given : Option (List ℕ)) (text : List ℕ) → FromStart (AnswersCertify request) origin given (Ok text) →
    Took text sink → WroteProof origin.block.instance sink
certify-is-lawful request sink origin given text answers took =
    let from = from-start (AnswersCertify request) origin given text answers in
    of-numbers request origin.block.instance from.0 text sink from.1 took

-- what `signs` writes is a lawful two-ended certificate
pub signs-is-lawful : {K : Type 0} (sink : SinkRun K) (shop : Shop) (bytes text : List ℕ) →
    AnswersSigns shop bytes (Ok text) → Took text sink → WroteProof shop sink
signs-is-lawful sink shop bytes text is took = (
  text,
  TwoEnded,
  is.bounds,
  is.jobs,
  took,
  rw is.signs.text (read-as shop is.bounds is.jobs is.signs.directions true),
  is.signs,
  proved-of TwoEnded shop text is.jobs is.bounds is.signs,
)

-- the sequence that a text gives is one of the shop, and its lower bound holds
timed-holds : (shop : Shop) (text : List ℕ) (timed : TimedSequence) → GivesTimed shop text (Ok timed) →
    IsSequence shop.jobs timed.sequence × IfSome timed.lower (IsLowerBound shop)
timed-holds shop text timed (inl (begins, (kind, read, bounds, gives, lower))) = (
  given-sequence kind shop text bounds timed.sequence gives,
  rw lower (given-bounds kind shop text bounds timed.sequence gives).lower,
)
timed-holds shop text timed (inr (not_begun, (gives, none))) = (gives.2, rw none tt)

-- what `schedule` writes is of a sequence of the shop, with a lower bound that holds
pub schedule-is-proved : {K : Type 0} (form : ScheduleForm) (shop : Shop) (sink : SinkRun K) (given text : List ℕ) →
    AnswersSchedule form shop given (Ok text) → Took text sink → WroteSchedule form shop sink
schedule-is-proved form shop sink given text (inl (timed, gives, own, is, same)) took =
    let here : text ≡ own = cc in
    let holds = timed-holds shop given timed gives in
    (timed, holds.0, holds.1, own, is, subst (λ t. Took t sink) here took)
schedule-is-proved form shop sink given text (inr (fault, gives, never)) took = cc

-- what is answered for a request is true of the shop
pub request-says-true : {K : Type 0} (request : Request) (sink : SinkRun K) (origin : Origin)
    (given : Option (List ℕ)) (text : List ℕ) → answers request origin given (Ok text) → Took text sink →
    SaysTrue request origin given sink
request-says-true (Solve request) sink origin given text answer took =
    solve-is-lawful request sink origin given text answer took
request-says-true (Certify request progress seconds) sink origin given text answer took =
    certify-is-lawful request sink origin given text answer took
request-says-true Signs sink origin given text answer took =
    signs-is-lawful sink origin.block.instance (unwrap_or given []) text answer took
request-says-true (Check request progress) sink origin given text answer took = (
  (text, says-proved request origin (unwrap_or given []) text answer, took),
  λ asked. wrote-optimum request origin sink (unwrap_or given []) text asked answer took,
)
request-says-true (Schedule form) sink origin given text answer took =
    schedule-is-proved form origin.block.instance sink (unwrap_or given []) text answer took
request-says-true (Span jobs) sink origin given text answer took = tt
request-says-true Neh sink origin given text answer took = tt
request-says-true (Improve request seconds) sink origin given text answer took = tt

-- what a run writes for a request is true of the shop
pub run-says-true : {S T K : Type 0} {kind : FileKind} {index : ℕ} {run : CommandRun S T K}
    {result : Result (Unit {0}) CommandFault} (request : Request) → Ran kind (answers request) index run result →
    OnOk result (CameBoth kind index (λ origin given. SaysTrue request origin given run.sink) run)
run-says-true {kind = kind} {index = index} {run = run} {result = result} request ran =
    came-both kind (answers request) index run result (λ origin given. SaysTrue request origin given run.sink)
    (request-says-true request run.sink) ran.written
