use Rattle.flow_requests.specs.declared.SolveRequest.{SolveRequest}
use Rattle.flow_commands.specs.Runs.{run_alone, sink_run, source_run}
use Rattle.flow_commands.specs.Solve.{AnswersSolve, WroteCertificate}
use Rattle.flow_commands.specs.Start.{FromStart}
use Rattle.flow_commands.specs.declared.files.FileKind.TheVariants.{Text}
use Rattle.flow_commands.proofs.Truths.{solve-is-lawful}
use Rattle.flow_commands.proofs.Written.{came-for}
use Rattle.flow_commands.proofs.solve.run_solve.Goals as goal

pub returns-clause-lawful : goal.returns-clause-lawful
returns-clause-lawful g c =
    let request : SolveRequest = record {
      workers = c.args.workers;
      depth = c.args.depth;
      budget = c.args.budget;
      version = c.args.version;
    } in
    let sink = sink_run g.K.Sink c.args.out.now c.solve_over.new.out in
    came-for Text (FromStart (AnswersSolve request)) c.args.index
    (run_alone (source_run g.S.Source c.args.file.now c.solve_over.new.file) sink) c.solve_over.result
    (λ shop. WroteCertificate shop sink) (solve-is-lawful request sink) c.solve_over.ensures.ran.written
