use Rattle.std.proofs.Common.{◌≡◌, ℕ, ◌+◌, List, ◌++◌, length}
use Rattle.std.specs.Prelude.{All}
use Rattle.flow_shop.specs.Shop.{Shop}
use Rattle.flow_shop.specs.Sequences.{AreJobs}
use Rattle.flow_directions.specs.Search.{IsPart, parts_visits, visits}
use Rattle.flow_directions.specs.internal.Levels.{StandsBelow, first_of, last_of, met_with, names_of}
use Rattle.flow_directions.specs.internal.Tree.{IsTree}
use Rattle.flow_directions.proofs.walk.parts_left.Given as goal

-- what is met at the parts so far, and then at the levels that are left, is what was to be met
abbrev pub invariant-levels : goal.invariant-levels
invariant-levels g l = record {
  left : l.left + length l.levels.items ≡ l.fn.left + length l.fn.levels.items;
  count : length l.parts.items + length l.levels.items ≡ length l.fn.levels.items + 1;
  stands : (shop : Shop) (threshold : ℕ) (first last : List ℕ) → IsTree g.V.Vector.CAP shop threshold l.tree →
      StandsBelow shop threshold (names_of l.tree.packs.items) first last (l.fn.left + length l.fn.levels.items) l.fn.lists
      l.fn.levels.items →
      StandsBelow shop threshold (names_of l.tree.packs.items) first last (l.fn.left + length l.fn.levels.items) l.lists
      l.levels.items;
  met : (shop : Shop) (threshold : ℕ) (first last : List ℕ) → IsTree g.V.Vector.CAP shop threshold l.tree →
      StandsBelow shop threshold (names_of l.tree.packs.items) first last (l.fn.left + length l.fn.levels.items) l.fn.lists
      l.fn.levels.items →
      met_with shop threshold (names_of l.tree.packs.items) (l.fn.left + length l.fn.levels.items) first last
      l.levels.items (parts_visits shop threshold l.parts.items)
      ≡ met_with shop threshold (names_of l.tree.packs.items) (l.fn.left + length l.fn.levels.items) first last
      l.fn.levels.items (visits shop threshold (first_of first l.fn.levels.items) (last_of last l.fn.levels.items));
  each : (shop : Shop) (threshold : ℕ) (first last : List ℕ) → IsTree g.V.Vector.CAP shop threshold l.tree →
      StandsBelow shop threshold (names_of l.tree.packs.items) first last (l.fn.left + length l.fn.levels.items) l.fn.lists
      l.fn.levels.items →
      AreJobs shop.jobs (first ++ last) → All (IsPart shop) l.parts.items;
}

abbrev pub decreases-levels : goal.decreases-levels
decreases-levels g l = length l.levels.items
