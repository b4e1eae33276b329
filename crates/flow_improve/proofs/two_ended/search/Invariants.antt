use Rattle.std.proofs.Common.{◌≤◌}
use Rattle.flow_improve.specs.internal.Beams.{ArePasses}
use Rattle.flow_improve.specs.internal.Reaches.{HasMakespan}
use Rattle.flow_improve.proofs.two_ended.search.Given as goal

-- what is reached so far, which is no worse than before
abbrev pub invariant-loop-doublings : goal.invariant-loop-doublings
invariant-loop-doublings g l = record {
  passes : ArePasses g.V.Vector.list g.V.Vector.CAP g.V.Vector.WIDTH l.instance l.passes;
  reached : HasMakespan l.instance l.reached;
  least : l.reached.value ≤ l.initial.reached.value;
}
