use Rattle.std.proofs.Common.{◌≡◌, ◌-◌, ◌++◌, map}
use Rattle.flow_shop.specs.Shop.{numbers}
use Rattle.flow_schedule.specs.Timetable.{operation, end_at}
use Rattle.flow_schedule.proofs.operations.push_operations.Given as goal

-- the operations on the machines so far, and when the job left the last of these
abbrev pub invariant-loop-machine : goal.invariant-loop-machine
invariant-loop-machine l = record {
  ready : l.ready ≡ end_at l.instance l.jobs l.place (l.machine - 1);
  items : l.operations.items
      ≡ l.fn.operations.items ++ map (operation l.instance l.jobs l.place) (numbers 1 (l.machine - 1));
}
