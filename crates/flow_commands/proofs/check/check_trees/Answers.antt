use Rattle.std.proofs.Common.{rules}
use Rattle.std.proofs.lemmas.Result.{err_from_is_err_and}
use Rattle.flow_commands.specs.Check.{AnswersTrees}
use Rattle.flow_commands.specs.Runs.{sink_run}
use Rattle.flow_commands.specs.internal.Picked.{origin_of}
use Rattle.flow_commands.proofs.Responses.{all-written, part-written}
use Rattle.flow_commands.proofs.check.check_trees.Goals as goal

pub returns-in_err-put_all : goal.returns-in_err-put_all
returns-in_err-put_all g c =
    let p = err_from_is_err_and c.from_residual-in_err-put_all.result c.from_residual-in_err-put_all.ensures.1 in
    rw (p.1, p.2)
    (part-written (AnswersTrees (origin_of c.args.picked.now) c.args.bytes.now)
    (sink_run g.K.Sink c.args.out.now c.put_all.new.sink) _ c.in_ok-text.text.items c.in_ok-text.ensures.text
    (rw c.as_slice.ensures.value at c.in_err-put_all.ensures.err) (search rules))

pub returns : goal.returns
returns g c =
    all-written (AnswersTrees (origin_of c.args.picked.now) c.args.bytes.now)
    (sink_run g.K.Sink c.args.out.now c.put_all.new.sink) c.in_ok-text.text.items c.in_ok-text.ensures.text
    (rw c.as_slice.ensures.value at c.in_ok-put_all.ensures.ok) (search rules)
