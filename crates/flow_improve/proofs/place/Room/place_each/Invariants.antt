use Rattle.std.proofs.Common.{◌≡◌, ◌+◌}
use Rattle.flow_shop.specs.Paths.{span}
use Rattle.flow_shop.specs.Sequences.{IsSequence}
use Rattle.flow_bound.specs.Rooms.{IsRoomFor}
use Rattle.flow_improve.proofs.place.Room.place_each.Given as goal

-- the list with the jobs so far placed again, and its makespan
abbrev pub invariant-loop-job : goal.invariant-loop-job
invariant-loop-job l = record {
  room : IsRoomFor l.instance l.self.insertions;
  list : IsSequence l.instance.jobs l.list;
  last : l.last + 1 ≡ l.instance.jobs;
  makespan : l.makespan ≡ span l.instance l.list;
}
