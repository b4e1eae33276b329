use Rattle.std.proofs.Common.{refl, rules, Err, Some, unwrap_or, []}
use Rattle.std.proofs.lemmas.Result.{err_from_is_err_and}
use Rattle.flow_commands.specs.Block.{IsPicked, Picks}
use Rattle.flow_commands.specs.Output.{OfBytes}
use Rattle.flow_commands.specs.Check.{AnswersTrees, WroteLeast}
use Rattle.flow_commands.specs.Runs.{run_of, sink_run, source_run}
use Rattle.flow_commands.specs.declared.block.PickedBlock.{PickedBlock}
use Rattle.flow_commands.specs.declared.files.FileKind.TheVariants.{Certificate, Text}
use Rattle.flow_commands.specs.internal.Picked.{origin_of}
use Rattle.flow_commands.proofs.Drivers.{came-with, responded, stopped-at-second, stopped-at-text, stops-at-pick}
use Rattle.flow_commands.proofs.Drivers.{stops-for}
use Rattle.flow_commands.proofs.Least.{wrote-least}
use Rattle.flow_commands.proofs.Written.{came-for}
use Rattle.flow_commands.proofs.check.run_check.Goals as goal

pub returns-in_err-text-clause-ran : goal.returns-in_err-text-clause-ran
returns-in_err-text-clause-ran g c =
    let text = source_run g.S.Source c.args.file.now c.read_file.new.file in
    let cert = Some (source_run g.C.Source c.args.cert.now c.args.cert.now) in
    let sink = sink_run g.K.Sink c.args.out.now c.args.out.now in
    let p = err_from_is_err_and c.from_residual.result c.from_residual.ensures.1 in
    let says = c.in_err-text.ensures in
    rw (p.1, p.2)
    (stopped-at-text Certificate (OfBytes AnswersTrees) c.args.index text cert sink _
    (stops-for Text (λ bytes refusal. Picks bytes c.args.index (Err refusal)) text _ says.refused)
    says.device says.writes_nothing says.stands (search rules) (search rules) (search rules) refl (search rules))

pub returns-in_err-picked-clause-ran : goal.returns-in_err-picked-clause-ran
returns-in_err-picked-clause-ran g c =
    let text = source_run g.S.Source c.args.file.now c.read_file.new.file in
    let cert = Some (source_run g.C.Source c.args.cert.now c.args.cert.now) in
    let sink = sink_run g.K.Sink c.args.out.now c.args.out.now in
    let p = err_from_is_err_and c.from_residual-in_err-picked.result c.from_residual-in_err-picked.ensures.1 in
    let says = c.in_ok-text.ensures in
    rw (p.1, p.2)
    (stopped-at-text {A = PickedBlock} Certificate (OfBytes AnswersTrees) c.args.index text cert sink _
    (stops-at-pick (λ bytes refusal. Picks bytes c.args.index (Err refusal)) text c.in_ok-text.text.items _ says.came
    c.in_err-picked.ensures.refused)
    (search rules) (search rules) says.stands (search rules) (search rules) (search rules) refl (search rules))

pub returns-in_err-bytes-clause-ran : goal.returns-in_err-bytes-clause-ran
returns-in_err-bytes-clause-ran g c =
    let text = source_run g.S.Source c.args.file.now c.read_file.new.file in
    let cert = Some (source_run g.C.Source c.args.cert.now c.read_file-2.new.file) in
    let sink = sink_run g.K.Sink c.args.out.now c.args.out.now in
    let p = err_from_is_err_and c.from_residual-in_err-bytes.result c.from_residual-in_err-bytes.ensures.1 in
    let origin = origin_of c.in_ok-picked.picked in
    let says = c.in_err-bytes.ensures in
    rw (p.1, p.2)
    (stopped-at-second Certificate (OfBytes AnswersTrees) c.args.index origin text cert sink _
    (came-with Text (λ bytes. IsPicked bytes c.args.index origin) text c.in_ok-text.text.items
    c.in_ok-text.ensures.came c.in_ok-picked.ensures.picked) (search rules)
    c.in_ok-text.ensures.stands says.refused says.device says.writes_nothing says.stands refl (search rules))

pub returns-clause-ran : goal.returns-clause-ran
returns-clause-ran g c =
    let text = source_run g.S.Source c.args.file.now c.read_file.new.file in
    let cert = Some (source_run g.C.Source c.args.cert.now c.read_file-2.new.file) in
    let sink = sink_run g.K.Sink c.args.out.now c.check_trees.new.out in
    let origin = origin_of c.in_ok-picked.picked in
    let says = c.in_ok-bytes.ensures in
    responded Certificate (OfBytes AnswersTrees) c.args.index origin (Some c.in_ok-bytes.bytes) text cert sink
    c.check_trees.result
    (came-with Text (λ bytes. IsPicked bytes c.args.index origin) text c.in_ok-text.text.items c.in_ok-text.ensures.came
    c.in_ok-picked.ensures.picked) (search rules)
    c.in_ok-text.ensures.stands says.came (search rules) says.stands
    (rw c.as_slice.ensures.value at c.check_trees.ensures)

pub returns-clause-least : goal.returns-clause-least
returns-clause-least g c =
    let sink = sink_run g.K.Sink c.args.out.now c.check_trees.new.out in
    came-for Certificate (OfBytes AnswersTrees) c.args.index
    (run_of (source_run g.S.Source c.args.file.now c.read_file.new.file)
    (Some (source_run g.C.Source c.args.cert.now c.read_file-2.new.file)) sink) c.check_trees.result
    (λ shop. WroteLeast shop sink) (λ origin given text. wrote-least origin sink (unwrap_or given []) text)
    (returns-clause-ran g c).written
