use Rattle.std.proofs.Common.{◌≡◌, ℕ, ◌*◌, ◌<◌}
use Rattle.flow_nodes.specs.Marks.{mark}
use Rattle.flow_nodes.proofs.marks.Marks.first_marked.Given as goal

-- no place of the groups so far is marked
abbrev pub invariant-loop-group : goal.invariant-loop-group
invariant-loop-group l = record {
  none : (other : ℕ) → other < l.group * 16 → mark l.self.words other ≡ 0;
}
