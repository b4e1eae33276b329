use Rattle.std.proofs.Common.{subst, sym}
use Rattle.flow_check.specs.Certificate.{IsCertificate}
use Rattle.flow_cert.proofs.Lawful.{verdict_is_certified}
use Rattle.flow_c.proofs.Found.{verdict-given}
use Rattle.flow_c.proofs.solve.solve_plan.Goals as goal

pub returns-clause-lawful : goal.returns-clause-lawful
returns-clause-lawful c =
    subst (λ text. IsCertificate c.args.plan.now.shop text c.in_ok-verdict.verdict.value)
    (sym c.in_ok-text.ensures.text)
    (verdict_is_certified c.args.plan.now c.in_ok-verdict.verdict c.requires c.in_ok-verdict.ensures.verdict).lawful

pub returns-clause-gives : goal.returns-clause-gives
returns-clause-gives c =
    rw c.in_ok-text.ensures.text
    (verdict-given c.args.plan.now c.in_ok-verdict.verdict c.requires c.in_ok-verdict.ensures.verdict)
