use Rattle.flow_improve.specs.internal.Beams.{ArePasses}
use Rattle.flow_improve.proofs.two_ended.pass.Passes.pass.Given as goal

-- the lists have entries of the instance
abbrev pub invariant-loop : goal.invariant-loop
invariant-loop g l = ArePasses g.V.Vector.list g.V.Vector.CAP g.V.Vector.WIDTH l.instance l.self
