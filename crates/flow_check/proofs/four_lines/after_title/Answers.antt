use Rattle.flow_check.proofs.SizeLine.{stripped, stripped-only}
use Rattle.flow_check.proofs.four_lines.after_title.Goals as goal

pub returns-clause-found : goal.returns-clause-found
returns-clause-found c =
    stripped c.args.text.now c.args.title.now c.strip_prefix.result c.strip_prefix.ensures.cases

pub returns-clause-only : goal.returns-clause-only
returns-clause-only c =
    stripped-only c.args.text.now c.args.title.now c.strip_prefix.result c.strip_prefix.ensures.cases
