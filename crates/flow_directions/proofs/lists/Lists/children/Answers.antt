use Rattle.std.proofs.Common.{refl, ◌∙◌}
use Rattle.flow_directions.proofs.lists.Lists.children.Goals as goal

pub returns : goal.returns
returns c count first last lists = (
  c.in_ok-first.first,
  c.in_ok-last.last,
  c.args.jobs,
  c.in_ok-first.ensures.items ∙ c.begin.ensures count first last lists,
  c.in_ok-last.ensures.items ∙ c.end.ensures count first last lists,
  refl,
  refl,
)
