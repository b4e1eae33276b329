use Rattle.std.proofs.Common.{rules}
use Rattle.std.proofs.lemmas.Result.{err_from_is_err_and}
use Rattle.flow_requests.specs.SecondFile.{file_in}
use Rattle.flow_commands.specs.Runs.{sink_run}
use Rattle.flow_commands.specs.Solve.{AnswersRun, AnswersSolve}
use Rattle.flow_commands.specs.Start.{FromStart}
use Rattle.flow_commands.specs.internal.Picked.{origin_of}
use Rattle.flow_commands.specs.internal.Reading.{bytes_of}
use Rattle.flow_commands.proofs.Responses.{refused, weaker}
use Rattle.flow_commands.proofs.Starts.{given-answers, given-refused}
use Rattle.flow_commands.proofs.solve.solve_block.Goals as goal

pub returns-in_err-plan : goal.returns-in_err-plan
returns-in_err-plan g c =
    let A = AnswersSolve c.args.solve.now.request in
    let origin = origin_of c.args.picked in
    let start = bytes_of (file_in c.args.start) in
    let p = err_from_is_err_and c.from_residual-in_err-plan.result c.from_residual-in_err-plan.ensures.1 in
    let fault = c.in_err-plan.field-0.0 in
    rw (p.1, p.2)
    (refused (FromStart A origin start) (sink_run g.K.Sink c.args.out.now c.args.out.now) fault
    (given-refused A origin start c.in_ok-given.given fault c.in_ok-given.ensures.given c.in_err-plan.ensures.refused)
    c.in_err-plan.ensures.device (search rules) (search rules))

pub returns : goal.returns
returns g c =
    let A = AnswersSolve c.args.solve.now.request in
    let origin = origin_of c.args.picked in
    let start = bytes_of (file_in c.args.start) in
    weaker (AnswersRun c.in_ok-plan.plan) (FromStart A origin start)
    (sink_run g.K.Sink c.args.out.now c.solve_plan.new.out) c.solve_plan.result
    (λ answer ran. given-answers A origin start c.in_ok-given.given answer c.in_ok-given.ensures.given
    (c.in_ok-plan.ensures.answers answer ran)) c.solve_plan.ensures
