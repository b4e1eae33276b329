use Rattle.std.proofs.Common.{ap, Err}
use Rattle.std.proofs.lemmas.Result.{err_from_is_err_and}
use Rattle.flow_commands.specs.Runs.{source_run}
use Rattle.flow_commands.specs.declared.files.FileKind.TheVariants.{StartOrCertificate}
use Rattle.flow_commands.proofs.Drivers.{stops-by}
use Rattle.flow_commands.proofs.files.read_file.Goals as goal

pub returns-in_err-read_by_begin-in-StartOrCertificate-clause-refused :
    goal.returns-in_err-read_by_begin-in-StartOrCertificate-clause-refused
returns-in_err-read_by_begin-in-StartOrCertificate-clause-refused g c =
    let residual = c.from_residual-in_err-read_by_begin-in-StartOrCertificate in
    let p = err_from_is_err_and residual.result residual.ensures.1 in
    let refused = c.in_err-read_by_begin-in-StartOrCertificate in
    rw (c.in-StartOrCertificate.is, p.1)
    (stops-by StartOrCertificate (source_run g.S.Source c.args.file.now c.read_by_begin.new.source) refused.field-0.0 _
    (λ same. refused.ensures.memory (ap Err same)) (λ same. refused.ensures.too_long (ap Err same)) p.2)
