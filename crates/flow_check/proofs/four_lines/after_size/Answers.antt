use Rattle.std.proofs.Common.{◌∙◌}
use Rattle.flow_check.proofs.SizeLine.{bounds-parts}
use Rattle.flow_check.proofs.four_lines.after_size.Goals as goal

pub returns-clause-only : goal.returns-clause-only
returns-clause-only c rest h = c.after_counts.ensures.only rest (h ∙ bounds-parts c.args.jobs c.args.machines rest)
