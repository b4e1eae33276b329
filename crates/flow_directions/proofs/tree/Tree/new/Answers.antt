use Rattle.std.proofs.Common.{length, ap, ◌∙◌, arith}
use Rattle.flow_directions.proofs.tree.Tree.new.Goals as goal

pub returns-clause-tree : goal.returns-clause-tree
returns-clause-tree g c threshold is cap = record {
  limit = c.in_ok-new.ensures.limit ∙ is;
  capped = omega (arith, is, cap);
  opener = c.in_ok-new.ensures.room;
  packs = record {
    few = omega (arith, c.packs.invariant.few, c.requires.few);
    rooms = c.packs.invariant.rooms;
    groups = c.packs.invariant.groups;
  };
  nodes = λ place none low. absurd (omega (arith, low, ap length c.new-2.ensures.items));
}
