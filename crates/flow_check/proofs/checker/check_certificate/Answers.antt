use Rattle.std.proofs.Common.{◌≡◌, Ok, Err, inl, refl, ap, sym, ◌∙◌}
use Rattle.flow_check.specs.Certificate.{IsCertificateWith}
use Rattle.flow_check.specs.Stated.{both}
use Rattle.flow_check.specs.Faults.{IsFirstFault}
use Rattle.flow_check.specs.internal.Reading.{text_value}
use Rattle.flow_check.specs.declared.fault.CheckFault.TheVariants.{End}
use Rattle.flow_check.proofs.Exact.{value_is_exact}
use Rattle.flow_check.proofs.Exits.{exit}
use Rattle.flow_check.proofs.Checked.{first-fault, unlawful, only-memory, fault-at, none-at, trees-fault}
use Rattle.flow_check.proofs.Checked.{fault-lawless, checked-value, checked-end}
use Rattle.flow_check.proofs.OneSequence.{gives-read, states_one}
use Rattle.flow_check.proofs.checker.check_certificate.Goals as goal
use Rattle.flow_check.proofs.checker.check_certificate.Goals.{In_err-heading, In_err-end, Then-not-is_ending}
use Rattle.flow_check.proofs.checker.check_certificate.Goals.{Else-not-is_ending}

-- the fault of the lines before the trees
heading-fault : (c : In_err-heading) →
    IsFirstFault c.args.instance.now c.args.bytes.now c.in_err-heading.field-0.0
heading-fault c =
    first-fault c.args.instance.now c.args.bytes.now c.in_err-heading.field-0.0
    c.read_heading.ensures.limits c.in_err-heading.ensures.fault

pub returns-in_err-heading-clause-lawful : goal.returns-in_err-heading-clause-lawful
returns-in_err-heading-clause-lawful c bounds sequence gives =
    only-memory c.args.instance.now c.args.bytes.now c.from_residual.result c.in_err-heading.field-0.0
    gives.0 _ (exit c.from_residual.result c.in_err-heading.field-0.0 c.from_residual.ensures.1)
    (unlawful c.args.instance.now c.args.bytes.now c.in_err-heading.field-0.0
    c.read_heading.ensures.limits
    (heading-fault (goal.at.returns-in_err-heading-clause-lawful c).In_err-heading)) (sequence, gives.2)

pub returns-in_err-heading-clause-fault : goal.returns-in_err-heading-clause-fault
returns-in_err-heading-clause-fault c =
    fault-at c.args.instance.now c.args.bytes.now c.from_residual.result c.in_err-heading.field-0.0
    (exit c.from_residual.result c.in_err-heading.field-0.0 c.from_residual.ensures.1)
    (heading-fault (goal.at.returns-in_err-heading-clause-fault c).In_err-heading)

pub returns-in_err-heading-clause-none : goal.returns-in_err-heading-clause-none
returns-in_err-heading-clause-none c =
    none-at c.args.instance.now c.args.bytes.now c.from_residual.result c.in_err-heading.field-0.0
    (exit c.from_residual.result c.in_err-heading.field-0.0 c.from_residual.ensures.1)
    (unlawful c.args.instance.now c.args.bytes.now c.in_err-heading.field-0.0
    c.read_heading.ensures.limits
    (heading-fault (goal.at.returns-in_err-heading-clause-none c).In_err-heading))

-- the fault of the trees
end-fault : (c : In_err-end) →
    IsFirstFault c.args.instance.now c.args.bytes.now c.in_err-end.field-0.0
end-fault c =
    trees-fault c.args.instance.now c.args.bytes.now c.in_ok-heading.heading c.in_err-end.field-0.0
    c.read_heading.ensures.limits c.in_ok-heading.ensures.found c.in_err-end.ensures

pub returns-in_err-end-clause-lawful : goal.returns-in_err-end-clause-lawful
returns-in_err-end-clause-lawful c bounds sequence gives =
    only-memory c.args.instance.now c.args.bytes.now c.from_residual-in_err-end.result
    c.in_err-end.field-0.0 gives.0 _
    (exit c.from_residual-in_err-end.result c.in_err-end.field-0.0 c.from_residual-in_err-end.ensures.1)
    (unlawful c.args.instance.now c.args.bytes.now c.in_err-end.field-0.0 c.read_heading.ensures.limits
    (end-fault (goal.at.returns-in_err-end-clause-lawful c).In_err-end)) (sequence, gives.2)

pub returns-in_err-end-clause-fault : goal.returns-in_err-end-clause-fault
returns-in_err-end-clause-fault c =
    fault-at c.args.instance.now c.args.bytes.now c.from_residual-in_err-end.result
    c.in_err-end.field-0.0
    (exit c.from_residual-in_err-end.result c.in_err-end.field-0.0 c.from_residual-in_err-end.ensures.1)
    (end-fault (goal.at.returns-in_err-end-clause-fault c).In_err-end)

pub returns-in_err-end-clause-none : goal.returns-in_err-end-clause-none
returns-in_err-end-clause-none c =
    none-at c.args.instance.now c.args.bytes.now c.from_residual-in_err-end.result
    c.in_err-end.field-0.0
    (exit c.from_residual-in_err-end.result c.in_err-end.field-0.0 c.from_residual-in_err-end.ensures.1)
    (unlawful c.args.instance.now c.args.bytes.now c.in_err-end.field-0.0 c.read_heading.ensures.limits
    (end-fault (goal.at.returns-in_err-end-clause-none c).In_err-end))

-- the text ends wrongly
ends : (c : Then-not-is_ending) → text_value c.args.instance.now c.args.bytes.now ≡ Err End
ends c =
    checked-end c.args.instance.now c.args.bytes.now c.in_ok-heading.heading c.in_ok-end.end
    c.is_ending.result c.in_ok-heading.ensures.found c.in_ok-end.ensures c.is_ending.ensures
    c.if-not-is_ending.true

pub returns-then-not-is_ending-clause-fault : goal.returns-then-not-is_ending-clause-fault
returns-then-not-is_ending-clause-fault c =
    first-fault c.args.instance.now c.args.bytes.now End c.read_heading.ensures.limits
    (ends (goal.at.returns-then-not-is_ending-clause-fault c).Then-not-is_ending)

pub returns-then-not-is_ending-clause-lawful : goal.returns-then-not-is_ending-clause-lawful
returns-then-not-is_ending-clause-lawful c bounds sequence gives =
    absurd (fault-lawless c.args.instance.now c.args.bytes.now End c.read_heading.ensures.limits
    (ends (goal.at.returns-then-not-is_ending-clause-lawful c).Then-not-is_ending) gives.0 (sequence, gives.2))

pub returns-then-not-is_ending-clause-none : goal.returns-then-not-is_ending-clause-none
returns-then-not-is_ending-clause-none c value is =
    fault-lawless c.args.instance.now c.args.bytes.now End c.read_heading.ensures.limits
    (ends (goal.at.returns-then-not-is_ending-clause-none c).Then-not-is_ending) value is

-- the text is read as its value
read : (c : Else-not-is_ending) →
    text_value c.args.instance.now c.args.bytes.now ≡ Ok c.in_ok-heading.heading.value
read c =
    checked-value c.args.instance.now c.args.bytes.now c.in_ok-heading.heading c.in_ok-end.end
    c.is_ending.result c.in_ok-heading.ensures.found c.in_ok-end.ensures c.is_ending.ensures
    c.if-not-is_ending.false

-- so it is a lawful one, with the sequence that was read
lawful : (c : Else-not-is_ending) → IsCertificateWith c.args.instance.now c.args.bytes.now
    c.in_ok-heading.heading.value c.in_ok-heading.heading.sequence
lawful c =
    gives-read c.args.instance.now c.args.bytes.now c.in_ok-heading.heading
    c.in_ok-heading.heading.value c.read_heading.ensures.limits c.in_ok-heading.ensures.lines
    ((value_is_exact c.args.instance.now c.args.bytes.now c.in_ok-heading.heading.value
    c.read_heading.ensures.limits).0 (read c))

pub returns-clause-text : goal.returns-clause-text
returns-clause-text c =
    (c.in_ok-heading.heading.value, refl, lawful (goal.at.returns-clause-text c).Else-not-is_ending)

pub returns-clause-lawful : goal.returns-clause-lawful
returns-clause-lawful c bounds sequence gives =
    let one = states_one c.args.instance.now c.args.bytes.now c.in_ok-heading.heading.value gives.0
    c.in_ok-heading.heading.sequence sequence c.read_heading.ensures.limits
    (lawful (goal.at.returns-clause-lawful c).Else-not-is_ending) gives.2 in
    inl (ap both one.0 ∙ sym gives.1, one.1)
