use Rattle.std.proofs.Common.{◌≡◌, ℕ, ◌+◌, ◌*◌, ◌≤◌, List, length, drop}
use Rattle.flow_nodes.specs.Marks.{chosen}
use Rattle.flow_nodes.proofs.marks.Marks.count.Given as goal

-- the marks of the words before the next one are counted
abbrev pub invariant-loop-word : goal.invariant-loop-word
invariant-loop-word l = record {
  few : l.count ≤ l.word * 16;
  rest : (names : List ℕ) → length names ≡ l.words * 16 →
      l.count + length (chosen (drop l.word l.self.words) (drop (l.word * 16) names))
      ≡ length (chosen l.self.words names);
}
