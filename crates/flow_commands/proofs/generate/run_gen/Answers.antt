use Rattle.std.proofs.Common.{rules, subst}
use Rattle.std.proofs.lemmas.Result.{err_from_is_err_and}
use Rattle.flow_core.specs.Generator.{generated}
use Rattle.flow_commands.specs.Generate.{AnswersGen, IsGeneratedText}
use Rattle.flow_commands.specs.Runs.{sink_run}
use Rattle.flow_commands.proofs.Responses.{part-written}
use Rattle.flow_commands.proofs.generate.run_gen.Goals as goal

pub returns-in_err-put_all : goal.returns-in_err-put_all
returns-in_err-put_all g c =
    let line = c.in_ok-text.text.items in
    let text : IsGeneratedText c.args.seed (generated c.args.jobs c.args.machines c.args.seed) line =
    subst (λ shop. IsGeneratedText c.args.seed shop line) c.in_ok-instance.ensures.value c.in_ok-text.ensures in
    let p = err_from_is_err_and c.from_residual-in_err-put_all.result c.from_residual-in_err-put_all.ensures.1 in
    rw (p.1, p.2)
    (part-written (AnswersGen c.args.jobs c.args.machines c.args.seed)
    (sink_run g.K.Sink c.args.out.now c.put_all.new.sink) _ line
    (c.in_ok-instance.ensures.accepted, text) (rw c.as_slice.ensures.value at c.in_err-put_all.ensures.err)
    (search rules))
