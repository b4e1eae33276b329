use Rattle.std.proofs.Common.{◌≡◌, ℕ, ◌+◌, ◌*◌, ◌≤◌, List, sum_by, drop}
use Rattle.flow_nodes.specs.Groups.{child_bound}
use Rattle.flow_nodes.specs.Marks.{chosen}
use Rattle.flow_nodes.specs.Packs.{IsPack}
use Rattle.flow_nodes.specs.Open.{IsOpenNode}
use Rattle.flow_directions.proofs.sums.sum_with.Given as goal

-- what is left to add makes the whole sum
abbrev pub invariant-loop-group : goal.invariant-loop-group
invariant-loop-group g l = record {
  small : l.sum ≤ l.group * (16 * 4294967295);
  rest : (threshold : ℕ) (first last : List ℕ) →
      IsOpenNode g.V.Vector.list g.V.Vector.CAP g.V.Vector.WIDTH l.instance threshold first last l.pack l.opened →
      IsPack g.V.Vector.list g.V.Vector.CAP g.V.Vector.WIDTH l.instance l.pack →
      l.sum + sum_by (child_bound l.instance l.end first last)
      (chosen (drop l.group l.opened.left.words) (drop (l.group * 16) l.pack.names.items))
      ≡ sum_by (child_bound l.instance l.end first last) (chosen l.opened.left.words l.pack.names.items);
}
