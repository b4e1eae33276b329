use Rattle.std.proofs.Common.{refl, ◌∙◌}
use Rattle.flow_directions.proofs.lists.Lists.node.Goals as goal

pub returns : goal.returns
returns c jobs first last lists = (
  c.in_ok-first.first,
  c.in_ok-last.last,
  c.in_ok-first.ensures.items ∙ c.begin.ensures jobs first last lists,
  c.in_ok-last.ensures.items ∙ c.end.ensures jobs first last lists,
  refl,
)
