use Rattle.std.proofs.Common.{refl, rules}
use Rattle.flow_cert.specs.PlanCertificates.{certificate_of}
use Rattle.flow_cert.proofs.Lawful.{text-of-plan}
use Rattle.flow_commands.specs.Runs.{sink_run}
use Rattle.flow_commands.specs.Solve.{AnswersRun}
use Rattle.flow_commands.proofs.Responses.{all-written}
use Rattle.flow_commands.proofs.solve.solve_plan.Goals as goal

pub returns : goal.returns
returns g c =
    all-written (AnswersRun c.args.plan.now)
    (sink_run g.K.Sink c.args.out.now c.write_certificate.new.out) (certificate_of c.args.plan.now)
    (c.in_ok-report.ensures.report.within, refl)
    (rw (text-of-plan c.args.plan.now c.in_ok-report.report.verdict c.in_ok-report.ensures.report.verdict)
    at c.in_ok-write_certificate.ensures.ok) (search rules)
