use Rattle.std.proofs.Common.{◌++◌, Some, ap, sym, ◌∙◌, arith}
use Rattle.std.specs.Prelude.{codes}
use Rattle.flow_check.proofs.SizeLine.{title-parts, stripped}
use Rattle.flow_check.proofs.heading.read_title.Goals as goal

pub returns-clause-found : goal.returns-clause-found
returns-clause-found c = (
  (omega (arith, c.if-version-from.false), omega (arith, c.if-version-from-2.false)),
  stripped c.args.text.now (codes "flowshop certificate ") (Some c.in_ok-number.number) c.in_ok-number.ensures.cases
      ∙ ap (λ xs. codes "flowshop certificate " ++ xs) c.in_ok-version.ensures.found.1
      ∙ sym (title-parts c.in_ok-version.version c.in_ok-version.rest.now),
)
