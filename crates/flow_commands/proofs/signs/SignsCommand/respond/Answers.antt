use Rattle.std.proofs.Common.{rules, subst, ℕ, List, Ok}
use Rattle.std.proofs.lemmas.Result.{err_from_is_err_and}
use Rattle.flow_requests.specs.SecondFile.{file_in}
use Rattle.flow_check.specs.TwoEnded.{two_ended_text}
use Rattle.flow_commands.specs.Output.{OfBytes}
use Rattle.flow_commands.specs.Runs.{sink_run}
use Rattle.flow_commands.specs.Signs.{AnswersSigns}
use Rattle.flow_commands.specs.internal.Picked.{origin_of}
use Rattle.flow_commands.specs.internal.Reading.{bytes_of}
use Rattle.flow_commands.proofs.Responses.{all-written, part-written}
use Rattle.flow_commands.proofs.Signed.{signed-answers}
use Rattle.flow_commands.proofs.signs.SignsCommand.respond.Goals as goal

pub returns-in_err-write_two_ended : goal.returns-in_err-write_two_ended
returns-in_err-write_two_ended g c =
    let shop = c.args.picked.block.instance in
    let shown = c.in_ok-shown.shown in
    let directions = c.in_ok-shown.directions.items in
    let text : List ℕ = two_ended_text shop shown.bounds shown.sequence directions in
    let p =
    err_from_is_err_and c.from_residual-in_err-write_two_ended.result
    c.from_residual-in_err-write_two_ended.ensures.1 in
    rw (p.1, p.2)
    (part-written (OfBytes (λ origin. AnswersSigns origin.block.instance) (origin_of c.args.picked)
    (bytes_of (file_in c.args.second))) (sink_run g.K.Sink c.args.out.now c.write_two_ended.new.out) _ text
    (subst (λ (bytes : List ℕ). AnswersSigns shop bytes (Ok text)) c.bytes_in.ensures
    (signed-answers shop c.bytes_in.result.now directions shown c.in_ok-shown.ensures.signs))
    (rw c.as_slice.ensures.value at c.in_err-write_two_ended.ensures.err) (search rules))

pub returns : goal.returns
returns g c =
    let shop = c.args.picked.block.instance in
    let shown = c.in_ok-shown.shown in
    let directions = c.in_ok-shown.directions.items in
    let text : List ℕ = two_ended_text shop shown.bounds shown.sequence directions in
    all-written (OfBytes (λ origin. AnswersSigns origin.block.instance) (origin_of c.args.picked)
    (bytes_of (file_in c.args.second))) (sink_run g.K.Sink c.args.out.now c.write_two_ended.new.out) text
    (subst (λ (bytes : List ℕ). AnswersSigns shop bytes (Ok text)) c.bytes_in.ensures
    (signed-answers shop c.bytes_in.result.now directions shown c.in_ok-shown.ensures.signs))
    (rw c.as_slice.ensures.value at c.in_ok-write_two_ended.ensures.ok) (search rules)
