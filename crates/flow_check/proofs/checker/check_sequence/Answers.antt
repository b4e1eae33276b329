use Rattle.flow_check.proofs.CertificateLines.{value-gives}
use Rattle.flow_check.proofs.checker.check_sequence.Goals as goal

pub returns-clause-sequence : goal.returns-clause-sequence
returns-clause-sequence c =
    let of = c.in_ok-sequence.ensures.text in
    (value-gives c.args.instance.now c.args.bytes.now of.0 c.in_ok-sequence.field-0.sequence of.2).0

pub returns-clause-least : goal.returns-clause-least
returns-clause-least c =
    let of = c.in_ok-sequence.ensures.text in
    (value-gives c.args.instance.now c.args.bytes.now of.0 c.in_ok-sequence.field-0.sequence of.2).1
