use Rattle.std.proofs.Common.{◌≡◌}
use Rattle.flow_shop.specs.Paths.{span}
use Rattle.flow_shop.specs.Sequences.{IsSequence}
use Rattle.flow_improve.specs.internal.Rooms.{IsRoundsFor}
use Rattle.flow_improve.proofs.round.Rounds.round.Given as goal

-- the list after a pass, and its makespan
abbrev pub invariant-passes : goal.invariant-passes
invariant-passes l = record {
  rounds : IsRoundsFor l.instance l.self;
  list : IsSequence l.instance.jobs l.list;
  makespan : l.makespan ≡ span l.instance l.list;
}

-- a further pass follows a smaller makespan
abbrev pub decreases-passes : goal.decreases-passes
decreases-passes l = l.before
