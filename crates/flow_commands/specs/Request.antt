-- What is answered for a request, and what is true of it.
use Rattle.std.specs.Prelude.{◌≡◌, ℕ, true, List, Option}
use Rattle.flow_requests.specs.declared.Request.{Request}
use Rattle.flow_requests.specs.declared.Request.TheVariants.{Certify, Check, Improve, Neh, Schedule, Signs, Solve, Span}
use Rattle.flow_commands.specs.Output.{Output, OfBytes, OfShop}
use Rattle.flow_commands.specs.Block.{Origin}
use Rattle.flow_commands.specs.Certify.{AnswersCertify, WroteProof}
use Rattle.flow_commands.specs.Check.{AnswersCheck, SaysProved, WroteOptimum}
use Rattle.flow_commands.specs.Improve.{AnswersImprove}
use Rattle.flow_commands.specs.Neh.{AnswersNeh}
use Rattle.flow_commands.specs.Runs.{SinkRun, Wrote}
use Rattle.flow_commands.specs.Schedule.{AnswersSchedule, WroteSchedule}
use Rattle.flow_commands.specs.Signs.{AnswersSigns}
use Rattle.flow_commands.specs.Solve.{AnswersSolve, WroteCertificate}
use Rattle.flow_commands.specs.Span.{AnswersSpan}
use Rattle.flow_commands.specs.Start.{FromStart}

-- what is answered for a request, for a block and the bytes of a second file where there is one
abbrev pub answers : Request → Origin → Option (List ℕ) → Output → Type 0
answers (Span jobs) = OfShop (AnswersSpan jobs.items)
answers Neh = OfShop AnswersNeh
answers (Solve request) = FromStart (AnswersSolve request)
answers (Improve request seconds) = FromStart (AnswersImprove request)
answers (Certify request progress seconds) = FromStart (AnswersCertify request)
answers (Check request progress) = OfBytes (AnswersCheck request)
answers Signs = OfBytes (λ origin. AnswersSigns origin.block.instance)
answers (Schedule form) = OfBytes (λ origin. AnswersSchedule form origin.block.instance)

-- what a sink took for a request is true of the shop of a block: a certificate with trees is lawful, and its makespan
-- the least; any other is lawful, and its bounds are proved; so is what `check` prints, which is the optimum where that
-- is asked for; and a schedule is of a sequence of the shop, with a bound that holds
abbrev pub SaysTrue : {K : Type 0} → Request → Origin → Option (List ℕ) → SinkRun K → Type 0
SaysTrue (Solve request) origin second sink = WroteCertificate origin.block.instance sink
SaysTrue (Certify request progress seconds) origin second sink = WroteProof origin.block.instance sink
SaysTrue Signs origin second sink = WroteProof origin.block.instance sink
SaysTrue (Check request progress) origin second sink =
    Wrote (OfBytes (SaysProved request) origin second) sink
    × (request.optimal ≡ true → WroteOptimum request.output origin.block.instance sink)
SaysTrue (Schedule form) origin second sink = WroteSchedule form origin.block.instance sink
SaysTrue request origin second sink = Unit {0}
