use Rattle.std.proofs.Common.{◌≡◌, ℕ, ◌+◌, ◌*◌, ◌<◌, ◌≤◌, List, ◌++◌, length}
use Rattle.flow_shop.specs.Sequences.{AreJobs}
use Rattle.flow_directions.specs.internal.Levels.{IsAt}
use Rattle.flow_directions.specs.internal.Tree.{IsTree}
use Rattle.flow_directions.proofs.WalkStands.{Stands}
use Rattle.flow_directions.proofs.walk.search.Given as goal

-- the walk searches the children of a level, and then those of the levels above it
abbrev pub invariant-walk : goal.invariant-walk
invariant-walk g l = record {
  tree : IsTree g.V.Vector.CAP l.instance l.fn.terms.threshold l.tree;
  packs : length l.tree.packs.items ≡ length l.fn.tree.packs.items;
  left : l.left + length l.levels.items ≡ l.fn.left;
  some : 1 ≤ l.left;
  room : l.here.top < length l.tree.nodes.items;
  walked : (text : List ℕ) × g.S.Signs.are l.signs text × (length text + l.budget ≡ l.fn.terms.budget)
      × ((first last : List ℕ) → AreJobs l.instance.jobs (first ++ last) →
      IsAt g.V.Vector.list g.V.Vector.CAP g.V.Vector.WIDTH l.instance l.fn.terms.threshold first last l.fn.left l.fn.lists
      l.fn.tree →
      Stands g.V.Vector.list g.V.Vector.CAP g.V.Vector.WIDTH l.instance l.fn.terms.threshold first last l.fn.left text
      l.lists l.tree.packs.items l.tree.nodes.items l.levels.items l.here);
}

abbrev pub decreases-walk : goal.decreases-walk
decreases-walk g l = 2 * l.budget + length l.levels.items
