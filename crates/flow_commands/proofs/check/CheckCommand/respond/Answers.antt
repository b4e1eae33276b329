use Rattle.std.proofs.Common.{◌≡◌, ◌⊎◌, rules, subst, inr, ℕ, List, [], Ok, Err, unwrap_or}
use Rattle.std.proofs.lemmas.Result.{err_from_is_err_and}
use Rattle.flow_requests.specs.SecondFile.{file_in}
use Rattle.flow_commands.specs.Check.{AnswersCheck}
use Rattle.flow_commands.specs.Output.{OfBytes}
use Rattle.flow_commands.specs.Runs.{sink_run}
use Rattle.flow_commands.specs.declared.refusals.CommandFault.TheVariants.{Memory}
use Rattle.flow_commands.specs.internal.Picked.{origin_of}
use Rattle.flow_commands.specs.internal.Reading.{bytes_of}
use Rattle.flow_commands.proofs.Least.{of-kind, refused-of-kind, refused-workers}
use Rattle.flow_commands.proofs.Responses.{all-written, part-written, refused}
use Rattle.flow_commands.proofs.check.CheckCommand.respond.Goals as goal

pub returns-in_err-worker_count : goal.returns-in_err-worker_count
returns-in_err-worker_count g c =
    let request = c.args.self.now.request in
    let origin = origin_of c.args.picked in
    let p = err_from_is_err_and c.from_residual.result c.from_residual.ensures.1 in
    let fault = c.in_err-worker_count.field-0.0 in
    let bytes = bytes_of (file_in c.args.second) in
    rw (p.1, p.2)
    (refused (OfBytes (AnswersCheck request) origin bytes) (sink_run g.K.Sink c.args.out.now c.args.out.now) fault
    (inr (refused-workers request origin (unwrap_or bytes []) fault c.in_err-worker_count.ensures.refused))
    c.in_err-worker_count.ensures.device (search rules) (search rules))

pub returns-in_err-text : goal.returns-in_err-text
returns-in_err-text g c =
    let request = c.args.self.now.request in
    let origin = origin_of c.args.picked in
    let p = err_from_is_err_and c.from_residual-in_err-text.result c.from_residual-in_err-text.ensures.1 in
    let fault = c.in_err-text.field-0.0 in
    rw (p.1, p.2)
    (refused (OfBytes (AnswersCheck request) origin (bytes_of (file_in c.args.second)))
    (sink_run g.K.Sink c.args.out.now c.args.out.now) fault
    (subst (λ (bytes : List ℕ). (fault ≡ Memory) ⊎ AnswersCheck request origin bytes (Err fault))
    c.bytes_in-bytes.ensures
    (refused-of-kind c.kind_of-kind.result request origin c.bytes_in-bytes.result.now fault
    c.in_ok-worker_count.ensures.accepted c.kind_of-kind.ensures
    c.in_err-text.ensures.refused))
    c.in_err-text.ensures.device (search rules) (search rules))

pub returns-in_err-put_all : goal.returns-in_err-put_all
returns-in_err-put_all g c =
    let request = c.args.self.now.request in
    let origin = origin_of c.args.picked in
    let text = c.in_ok-text.text.items in
    let p = err_from_is_err_and c.from_residual-in_err-put_all.result c.from_residual-in_err-put_all.ensures.1 in
    rw (p.1, p.2)
    (part-written (OfBytes (AnswersCheck request) origin (bytes_of (file_in c.args.second)))
    (sink_run g.K.Sink c.args.out.now c.put_all.new.sink) _ text
    (subst (λ (bytes : List ℕ). AnswersCheck request origin bytes (Ok text)) c.bytes_in-bytes.ensures
    (of-kind c.kind_of-kind.result request origin c.bytes_in-bytes.result.now (Ok text)
    c.in_ok-worker_count.ensures.accepted c.kind_of-kind.ensures
    c.in_ok-text.ensures.text))
    (rw c.as_slice.ensures.value at c.in_err-put_all.ensures.err) (search rules))

pub returns : goal.returns
returns g c =
    let request = c.args.self.now.request in
    let origin = origin_of c.args.picked in
    let text = c.in_ok-text.text.items in
    all-written (OfBytes (AnswersCheck request) origin (bytes_of (file_in c.args.second)))
    (sink_run g.K.Sink c.args.out.now c.put_all.new.sink) text
    (subst (λ (bytes : List ℕ). AnswersCheck request origin bytes (Ok text)) c.bytes_in-bytes.ensures
    (of-kind c.kind_of-kind.result request origin c.bytes_in-bytes.result.now (Ok text)
    c.in_ok-worker_count.ensures.accepted c.kind_of-kind.ensures
    c.in_ok-text.ensures.text))
    (rw c.as_slice.ensures.value at c.in_ok-put_all.ensures.ok) (search rules)
