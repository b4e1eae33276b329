use Rattle.std.proofs.Common.{rules, Ok}
use Rattle.std.proofs.lemmas.Result.{err_from_is_err_and}
use Rattle.flow_requests.specs.SecondFile.{file_in}
use Rattle.flow_commands.specs.Improve.{AnswersImprove}
use Rattle.flow_commands.specs.Runs.{sink_run}
use Rattle.flow_commands.specs.Start.{FromStart}
use Rattle.flow_commands.specs.internal.Picked.{origin_of}
use Rattle.flow_commands.specs.internal.Reading.{bytes_of}
use Rattle.flow_commands.proofs.Responses.{all-written, part-written}
use Rattle.flow_commands.proofs.Starts.{given-answers}
use Rattle.flow_commands.proofs.improve.ImproveCommand.respond.Goals as goal

pub returns-in_err-put_all : goal.returns-in_err-put_all
returns-in_err-put_all g c =
    let A = AnswersImprove c.args.self.now.request in
    let origin = origin_of c.args.picked in
    let start = bytes_of (file_in c.args.second) in
    let text = c.in_ok-text.text.items in
    let p = err_from_is_err_and c.from_residual-in_err-put_all.result c.from_residual-in_err-put_all.ensures.1 in
    rw (p.1, p.2)
    (part-written (FromStart A origin start) (sink_run g.K.Sink c.args.out.now c.put_all.new.sink) _ text
    (given-answers A origin start c.in_ok-given.given (Ok text) c.in_ok-given.ensures.given c.in_ok-text.ensures.text)
    (rw c.as_slice.ensures.value at c.in_err-put_all.ensures.err) (search rules))

pub returns : goal.returns
returns g c =
    let A = AnswersImprove c.args.self.now.request in
    let origin = origin_of c.args.picked in
    let start = bytes_of (file_in c.args.second) in
    let text = c.in_ok-text.text.items in
    all-written (FromStart A origin start) (sink_run g.K.Sink c.args.out.now c.put_all.new.sink) text
    (given-answers A origin start c.in_ok-given.given (Ok text) c.in_ok-given.ensures.given c.in_ok-text.ensures.text)
    (rw c.as_slice.ensures.value at c.in_ok-put_all.ensures.ok) (search rules)
