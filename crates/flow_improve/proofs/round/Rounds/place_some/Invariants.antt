use Rattle.std.proofs.Common.{◌≡◌, ◌<◌}
use Rattle.flow_shop.specs.Sequences.{IsSequence}
use Rattle.flow_improve.specs.internal.Rooms.{IsRoundsFor}
use Rattle.flow_improve.proofs.round.Rounds.place_some.Given as goal

-- some jobs have left
abbrev pub invariant-loop-count : goal.invariant-loop-count
invariant-loop-count l = record {
  rounds : IsRoundsFor l.instance l.self;
  list : IsSequence l.instance.jobs l.list;
  jobs : l.jobs ≡ l.instance.jobs;
  kept : l.kept < l.instance.jobs;
}

-- some of those are placed again
abbrev pub invariant-loop-count-2 : goal.invariant-loop-count-2
invariant-loop-count-2 l = record {
  rounds : IsRoundsFor l.instance l.self;
  list : IsSequence l.instance.jobs l.list;
  jobs : l.jobs ≡ l.instance.jobs;
}
