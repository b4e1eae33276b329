use Rattle.std.proofs.Common.{subst, sym}
use Rattle.flow_text.specs.StartText.{numbers_behind}
use Rattle.flow_text.specs.internal.StartSteps.{IsOfLine}
use Rattle.flow_text.proofs.StartLemmas.{read-behind, refused-behind}
use Rattle.flow_text.proofs.text.start.numbers_behind.Goals as goal

pub returns-in-Ok-clause-value : goal.returns-in-Ok-clause-value
returns-in-Ok-clause-value c =
    read-behind c.args.word.now c.args.line.now.bytes.now c.in-Some.rest.now _ c.in-Some.ensures c.in-Ok.ensures

pub returns-in-Err-clause-refused : goal.returns-in-Err-clause-refused
returns-in-Err-clause-refused c =
    subst (IsOfLine (numbers_behind c.args.word.now c.args.line.now.bytes.now) c.args.line.now.number)
    (sym c.of_start.ensures)
    (refused-behind c.args.word.now c.args.line.now.bytes.now c.in-Some.rest.now c.args.line.now.number c.in-Err.fault
    c.in-Some.ensures c.in-Err.ensures)
