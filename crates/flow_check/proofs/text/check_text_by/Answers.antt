use Rattle.std.proofs.Common.{IfErr, subst, sym}
use Rattle.std.proofs.lemmas.Result.{IfOk-weaker, IfErr-weaker}
use Rattle.flow_check.specs.Faults.{IsUnlawfulAs}
use Rattle.flow_check.specs.declared.kind.TextKind.TheVariants.{Certificate}
use Rattle.flow_check.specs.declared.shown.Shown.{Shown}
use Rattle.flow_check.proofs.TextGiven.{given-bounds, least-of, gives-nothing, gives-no-directions}
use Rattle.flow_check.proofs.text.check_text_by.Goals as goal

pub returns-in-Certificate-clause-bounds : goal.returns-in-Certificate-clause-bounds
returns-in-Certificate-clause-bounds g c =
    IfOk-weaker c.check_certificate.result _ _ (λ (shown : Shown) gives.
    given-bounds Certificate c.args.instance.now c.args.bytes.now shown.bounds shown.sequence gives)
    c.check_certificate.ensures.text

pub returns-in-Certificate-clause-least : goal.returns-in-Certificate-clause-least
returns-in-Certificate-clause-least g c =
    IfOk-weaker c.check_certificate.result _ _ (λ (shown : Shown) gives.
    least-of c.args.instance.now shown.bounds
    (given-bounds Certificate c.args.instance.now c.args.bytes.now shown.bounds shown.sequence gives))
    c.check_certificate.ensures.text

pub returns-in-Certificate-clause-none : goal.returns-in-Certificate-clause-none
returns-in-Certificate-clause-none g c =
    subst (λ kind. IfErr c.check_certificate.result (λ fault.
    IsUnlawfulAs kind c.args.instance.now c.args.bytes.now fault)) (sym c.in-Certificate.is)
    (IfErr-weaker c.check_certificate.result _ _
    (gives-nothing c.args.instance.now c.args.bytes.now) c.check_certificate.ensures.none)

pub returns-in-TwoEnded-clause-none : goal.returns-in-TwoEnded-clause-none
returns-in-TwoEnded-clause-none g c =
    subst (λ kind. IfErr c.check_two_ended.result (λ fault.
    IsUnlawfulAs kind c.args.instance.now c.args.bytes.now fault)) (sym c.in-TwoEnded.is)
    (IfErr-weaker c.check_two_ended.result _ _
    (gives-no-directions c.args.instance.now c.args.bytes.now) c.check_two_ended.ensures.none)
