use Rattle.std.proofs.Common.{◌≤◌}
use Rattle.flow_shop.specs.Paths.{span}
use Rattle.flow_improve.specs.internal.Rooms.{IsRunOf}
use Rattle.flow_improve.proofs.rounds.rounds_from.Given as goal

-- the best so far is no worse than the start
abbrev pub invariant-loop : goal.invariant-loop
invariant-loop g l = record {
  run : IsRunOf l.instance l.run;
  least : l.run.best.makespan ≤ span l.instance l.start;
}
