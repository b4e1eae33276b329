use Rattle.std.proofs.Common.{◌≡◌, ◌-◌, take, flat_map}
use Rattle.flow_shop.specs.Shop.{numbers}
use Rattle.flow_shop.specs.Front.{IsFrontOf}
use Rattle.flow_schedule.specs.Timetable.{operations_at}
use Rattle.flow_schedule.proofs.operations.timetable.Given as goal

-- the operations of the jobs at the places so far, and the front of these jobs
abbrev pub invariant-loop-place : goal.invariant-loop-place
invariant-loop-place l = record {
  front : IsFrontOf l.instance (take (l.place - 1) l.jobs) l.front;
  items : l.operations.items ≡ flat_map (operations_at l.instance l.sequence) (numbers 1 (l.place - 1));
}
