use Rattle.std.proofs.Common.{◌≡◌, ◌⊎◌, rules, subst, ℕ, List, Ok, Err}
use Rattle.std.proofs.lemmas.Result.{err_from_is_err_and}
use Rattle.flow_requests.specs.SecondFile.{file_in}
use Rattle.flow_commands.specs.Output.{OfBytes}
use Rattle.flow_commands.specs.Runs.{sink_run}
use Rattle.flow_commands.specs.Schedule.{AnswersSchedule}
use Rattle.flow_commands.specs.declared.refusals.CommandFault.TheVariants.{Memory}
use Rattle.flow_commands.specs.internal.Picked.{origin_of}
use Rattle.flow_commands.specs.internal.Reading.{bytes_of}
use Rattle.flow_commands.proofs.Responses.{all-written, part-written, refused}
use Rattle.flow_commands.proofs.schedule.ScheduleCommand.respond.Goals as goal

pub returns-in_err-text : goal.returns-in_err-text
returns-in_err-text g c =
    let form = c.args.self.now.form in
    let p = err_from_is_err_and c.from_residual.result c.from_residual.ensures.1 in
    let fault = c.in_err-text.field-0.0 in
    rw (p.1, p.2)
    (refused (OfBytes (λ origin. AnswersSchedule form origin.block.instance) (origin_of c.args.picked)
    (bytes_of (file_in c.args.second))) (sink_run g.K.Sink c.args.out.now c.args.out.now) fault
    (subst (λ (given : List ℕ). (fault ≡ Memory) ⊎ AnswersSchedule form c.args.picked.block.instance given (Err fault))
    c.bytes_in-given.ensures c.in_err-text.ensures.refused)
    c.in_err-text.ensures.device (search rules) (search rules))

pub returns-in_err-put_all : goal.returns-in_err-put_all
returns-in_err-put_all g c =
    let form = c.args.self.now.form in
    let text = c.in_ok-text.text.items in
    let p = err_from_is_err_and c.from_residual-in_err-put_all.result c.from_residual-in_err-put_all.ensures.1 in
    rw (p.1, p.2)
    (part-written (OfBytes (λ origin. AnswersSchedule form origin.block.instance) (origin_of c.args.picked)
    (bytes_of (file_in c.args.second))) (sink_run g.K.Sink c.args.out.now c.put_all.new.sink) _ text
    (subst (λ (given : List ℕ). AnswersSchedule form c.args.picked.block.instance given (Ok text))
    c.bytes_in-given.ensures c.in_ok-text.ensures.text)
    (rw c.as_slice.ensures.value at c.in_err-put_all.ensures.err) (search rules))

pub returns : goal.returns
returns g c =
    let form = c.args.self.now.form in
    let text = c.in_ok-text.text.items in
    all-written (OfBytes (λ origin. AnswersSchedule form origin.block.instance) (origin_of c.args.picked)
    (bytes_of (file_in c.args.second))) (sink_run g.K.Sink c.args.out.now c.put_all.new.sink) text
    (subst (λ (given : List ℕ). AnswersSchedule form c.args.picked.block.instance given (Ok text))
    c.bytes_in-given.ensures c.in_ok-text.ensures.text)
    (rw c.as_slice.ensures.value at c.in_ok-put_all.ensures.ok) (search rules)
