use Rattle.std.proofs.Common.{◌≡◌}
use Rattle.flow_improve.specs.internal.Beams.{ArePasses}
use Rattle.flow_improve.proofs.two_ended.pass.Passes.bound_children.Given as goal

-- the list stays
abbrev pub invariant-loop-place : goal.invariant-loop-place
invariant-loop-place g l = record {
  passes : ArePasses g.V.Vector.list g.V.Vector.CAP g.V.Vector.WIDTH l.instance l.self;
  count : l.self.count ≡ l.fn.self.count;
}
