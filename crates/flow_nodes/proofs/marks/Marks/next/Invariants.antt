use Rattle.std.proofs.Common.{◌≡◌, ℕ, ◌-◌, ◌<◌, ◌≤◌}
use Rattle.flow_nodes.specs.Marks.{mark}
use Rattle.flow_nodes.proofs.marks.Marks.next.Given as goal

-- no place from the first one up to the next one is marked
abbrev pub invariant-words : goal.invariant-words
invariant-words l = record {
  from : l.from ≤ l.place;
  none : (other : ℕ) → l.from ≤ other → other < l.place → mark l.self.words other ≡ 0;
}

abbrev pub decreases-words : goal.decreases-words
decreases-words l = l.end - l.place
