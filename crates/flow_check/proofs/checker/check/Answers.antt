use Rattle.std.proofs.Common.{ℕ, Ok, inl, ap, subst, sym, ◌∙◌}
use Rattle.flow_check.specs.Certificate.{IsCertificate}
use Rattle.flow_check.specs.declared.bounds.Bounds.{Bounds}
use Rattle.flow_check.proofs.Exits.{exit}
use Rattle.flow_check.proofs.Checked.{only-memory, fault-at, none-at}
use Rattle.flow_check.proofs.Sound.{certificate_is_sound, value_is_one}
use Rattle.flow_check.proofs.checker.check.Goals as goal

pub returns-in_err-shown-clause-sound : goal.returns-in_err-shown-clause-sound
returns-in_err-shown-clause-sound c = certificate_is_sound c.args.instance.now c.args.bytes.now

pub returns-in_err-shown-clause-lawful : goal.returns-in_err-shown-clause-lawful
returns-in_err-shown-clause-lawful c value is =
    only-memory c.args.instance.now c.args.bytes.now c.from_residual.result c.in_err-shown.field-0.0 value
    _ (exit c.from_residual.result c.in_err-shown.field-0.0 c.from_residual.ensures.1)
    c.in_err-shown.ensures.none is

pub returns-in_err-shown-clause-fault : goal.returns-in_err-shown-clause-fault
returns-in_err-shown-clause-fault c =
    fault-at c.args.instance.now c.args.bytes.now c.from_residual.result c.in_err-shown.field-0.0
    (exit c.from_residual.result c.in_err-shown.field-0.0 c.from_residual.ensures.1) c.in_err-shown.ensures.fault

pub returns-in_err-shown-clause-none : goal.returns-in_err-shown-clause-none
returns-in_err-shown-clause-none c =
    none-at c.args.instance.now c.args.bytes.now c.from_residual.result c.in_err-shown.field-0.0
    (exit c.from_residual.result c.in_err-shown.field-0.0 c.from_residual.ensures.1) c.in_err-shown.ensures.none

pub returns-clause-value : goal.returns-clause-value
returns-clause-value c =
    let is = c.in_ok-shown.ensures.text in
    subst (IsCertificate c.args.instance.now c.args.bytes.now) (sym (ap (λ (b : Bounds). b.lower) is.1))
    (c.in_ok-shown.shown.sequence, is.2)

pub returns-clause-least : goal.returns-clause-least
returns-clause-least c =
    let is = c.in_ok-shown.ensures.text in
    certificate_is_sound c.args.instance.now c.args.bytes.now _
    (subst (IsCertificate c.args.instance.now c.args.bytes.now) (sym (ap (λ (b : Bounds). b.lower) is.1))
    (c.in_ok-shown.shown.sequence, is.2))

pub returns-clause-sound : goal.returns-clause-sound
returns-clause-sound c = certificate_is_sound c.args.instance.now c.args.bytes.now

pub returns-clause-lawful : goal.returns-clause-lawful
returns-clause-lawful c value is =
    let of = c.in_ok-shown.ensures.text in
    inl (ap (λ (n : ℕ). Ok n) (ap (λ (b : Bounds). b.lower) of.1
    ∙ value_is_one c.args.instance.now c.args.bytes.now of.0 value (c.in_ok-shown.shown.sequence, of.2) is))
