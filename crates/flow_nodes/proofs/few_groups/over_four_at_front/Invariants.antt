use Rattle.std.proofs.Common.{ℕ, ◌+◌, ◌<◌, List, slice_index}
use Rattle.flow_shop.specs.Shop.{Shop}
use Rattle.flow_shop.specs.declared.end.End.TheVariants.{Front}
use Rattle.flow_nodes.specs.Nodes.{IsNode}
use Rattle.flow_nodes.specs.Groups.{IsGroup}
use Rattle.flow_nodes.specs.internal.Passes.{HasPassed}
use Rattle.flow_nodes.proofs.few_groups.over_four_at_front.Given as goal

-- the lanes have passed the machines so far
abbrev pub invariant-loop-machine : goal.invariant-loop-machine
invariant-loop-machine g l = record {
  passed : (shop : Shop) (first last jobs : List ℕ) (lane : ℕ) → IsNode shop first last l.node →
      IsGroup g.V.Vector.list g.V.Vector.CAP g.V.Vector.WIDTH shop jobs l.group → lane < g.V.Vector.WIDTH →
      HasPassed g.V.Vector.list g.V.Vector.CAP g.V.Vector.WIDTH shop Front first last (slice_index jobs lane) lane l.at
      l.fn.pass →
      HasPassed g.V.Vector.list g.V.Vector.CAP g.V.Vector.WIDTH shop Front first last (slice_index jobs lane) lane
      (l.at + l.machine) l.four;
}
