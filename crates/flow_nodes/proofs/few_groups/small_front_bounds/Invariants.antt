use Rattle.std.proofs.Common.{ℕ, ◌-◌, ◌<◌, ◌≤◌, List, length, slice_index}
use Rattle.flow_shop.specs.Shop.{Shop}
use Rattle.flow_shop.specs.declared.end.End.TheVariants.{Front}
use Rattle.flow_nodes.specs.Nodes.{IsNode}
use Rattle.flow_nodes.specs.Groups.{IsGroup}
use Rattle.flow_nodes.specs.internal.Passes.{HasPassed}
use Rattle.flow_nodes.proofs.few_groups.small_front_bounds.Given as goal

-- the lanes have passed the machines so far
abbrev pub invariant-fours : goal.invariant-fours
invariant-fours g l = record {
  within : l.at ≤ length l.group;
  passed : (shop : Shop) (first last jobs : List ℕ) (lane : ℕ) → IsNode shop first last l.node →
      IsGroup g.V.Vector.list g.V.Vector.CAP g.V.Vector.WIDTH shop jobs l.group → lane < g.V.Vector.WIDTH →
      HasPassed g.V.Vector.list g.V.Vector.CAP g.V.Vector.WIDTH shop Front first last (slice_index jobs lane) lane l.at
      l.pass;
}

abbrev pub invariant-others : goal.invariant-others
invariant-others g l = record {
  within : l.at ≤ length l.group;
  passed : (shop : Shop) (first last jobs : List ℕ) (lane : ℕ) → IsNode shop first last l.node →
      IsGroup g.V.Vector.list g.V.Vector.CAP g.V.Vector.WIDTH shop jobs l.group → lane < g.V.Vector.WIDTH →
      HasPassed g.V.Vector.list g.V.Vector.CAP g.V.Vector.WIDTH shop Front first last (slice_index jobs lane) lane l.at
      l.pass;
}

abbrev pub decreases-fours : goal.decreases-fours
decreases-fours g l = l.machines - l.at

abbrev pub decreases-others : goal.decreases-others
decreases-others g l = l.machines - l.at
