use Rattle.std.proofs.Common.{◌≡◌, ℕ, ◌<◌, ◌≤◌, length}
use Rattle.flow_nodes.specs.Groups.{most_groups}
use Rattle.flow_nodes.specs.Marks.{mark}
use Rattle.flow_nodes.proofs.marks.Marks.first.Given as goal

-- the places before the next one are marked, and no others
abbrev pub invariant-loop-place : goal.invariant-loop-place
invariant-loop-place l = record {
  size : length l.marks.words ≡ most_groups;
  marked : (place : ℕ) → place < l.place → mark l.marks.words place ≡ 1;
  others : (place : ℕ) → l.place ≤ place → mark l.marks.words place ≡ 0;
}
