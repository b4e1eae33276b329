use Rattle.std.proofs.Common.{◌≤◌, length}
use Rattle.flow_improve.specs.internal.Beams.{ArePasses}
use Rattle.flow_improve.proofs.two_ended.pass.Passes.turn.Given as goal

-- the next list has entries of the instance
abbrev pub invariant-loop-place : goal.invariant-loop-place
invariant-loop-place g l = record {
  passes : ArePasses g.V.Vector.list g.V.Vector.CAP g.V.Vector.WIDTH l.instance l.self;
  count : l.count ≤ length l.self.next.items;
}
