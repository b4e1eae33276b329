use Rattle.std.proofs.Common.{refl, rules, Err}
use Rattle.std.proofs.lemmas.Result.{err_from_is_err_and}
use Rattle.flow_requests.specs.SecondFile.{file_in}
use Rattle.flow_commands.specs.Block.{IsPicked, Picks}
use Rattle.flow_commands.specs.Files.{kind_of}
use Rattle.flow_commands.specs.Runs.{second_run, sink_run, source_run}
use Rattle.flow_commands.specs.declared.block.PickedBlock.{PickedBlock}
use Rattle.flow_commands.specs.declared.files.FileKind.TheVariants.{Text}
use Rattle.flow_commands.specs.internal.Picked.{origin_of}
use Rattle.flow_commands.proofs.Drivers.{came-with, responded, stopped-at-second, stopped-at-text, stops-at-pick}
use Rattle.flow_commands.proofs.Drivers.{stops-for}
use Rattle.flow_commands.proofs.command.run.Goals as goal

pub returns-in_err-text-clause-ran : goal.returns-in_err-text-clause-ran
returns-in_err-text-clause-ran g c =
    let text = source_run g.S.Source c.args.file.now c.read_file.new.file in
    let second = second_run g.T.Source (file_in c.args.second.now) (file_in c.args.second.now) in
    let sink = sink_run g.K.Sink c.args.out.now c.args.out.now in
    let p = err_from_is_err_and c.from_residual.result c.from_residual.ensures.1 in
    let says = c.in_err-text.ensures in
    rw (p.1, p.2)
    (stopped-at-text (kind_of c.args.second.now) (g.C.Command.answers c.args.command.now) c.args.index text second sink _
    (stops-for Text (λ bytes refusal. Picks bytes c.args.index (Err refusal)) text _ says.refused)
    says.device says.writes_nothing says.stands (search rules) (search rules) (search rules) refl (search rules))

pub returns-in_err-picked-clause-ran : goal.returns-in_err-picked-clause-ran
returns-in_err-picked-clause-ran g c =
    let text = source_run g.S.Source c.args.file.now c.read_file.new.file in
    let second = second_run g.T.Source (file_in c.args.second.now) (file_in c.args.second.now) in
    let sink = sink_run g.K.Sink c.args.out.now c.args.out.now in
    let p = err_from_is_err_and c.from_residual-in_err-picked.result c.from_residual-in_err-picked.ensures.1 in
    let says = c.in_ok-text.ensures in
    let refuses = c.in_err-picked.ensures in
    rw (p.1, p.2)
    (stopped-at-text {A = PickedBlock} (kind_of c.args.second.now) (g.C.Command.answers c.args.command.now) c.args.index text second sink _
    (stops-at-pick (λ bytes refusal. Picks bytes c.args.index (Err refusal)) text c.in_ok-text.text.items _ says.came
    refuses.refused)
    (search rules) (search rules) says.stands (search rules) (search rules) (search rules) refl (search rules))

pub returns-in_err-bytes-clause-ran : goal.returns-in_err-bytes-clause-ran
returns-in_err-bytes-clause-ran g c =
    let text = source_run g.S.Source c.args.file.now c.read_file.new.file in
    let second = second_run g.T.Source (file_in c.args.second.now) (file_in c.read_second.new.second) in
    let sink = sink_run g.K.Sink c.args.out.now c.args.out.now in
    let p = err_from_is_err_and c.from_residual-in_err-bytes.result c.from_residual-in_err-bytes.ensures.1 in
    let origin = origin_of c.in_ok-picked.picked in
    let says = c.in_err-bytes.ensures in
    rw (p.1, p.2)
    (stopped-at-second (kind_of c.args.second.now) (g.C.Command.answers c.args.command.now) c.args.index origin text second
    sink _ (came-with Text (λ bytes. IsPicked bytes c.args.index origin) text c.in_ok-text.text.items
    c.in_ok-text.ensures.came c.in_ok-picked.ensures.picked) (search rules)
    c.in_ok-text.ensures.stands says.refused says.device says.writes_nothing says.stands refl (search rules))

pub returns-clause-ran : goal.returns-clause-ran
returns-clause-ran g c =
    let text = source_run g.S.Source c.args.file.now c.read_file.new.file in
    let second = second_run g.T.Source (file_in c.args.second.now) (file_in c.read_second.new.second) in
    let sink = sink_run g.K.Sink c.args.out.now c.respond.new.out in
    let origin = origin_of c.in_ok-picked.picked in
    let says = c.in_ok-bytes.ensures in
    responded (kind_of c.args.second.now) (g.C.Command.answers c.args.command.now) c.args.index origin
    (file_in c.in_ok-bytes.bytes) text second sink c.respond.result
    (came-with Text (λ bytes. IsPicked bytes c.args.index origin) text c.in_ok-text.text.items c.in_ok-text.ensures.came
    c.in_ok-picked.ensures.picked) (search rules)
    c.in_ok-text.ensures.stands says.came (search rules) says.stands c.respond.ensures
