use Rattle.std.proofs.Common.{◌≡◌, ◌++◌, take, flat_map}
use Rattle.flow_schedule.specs.Picture.{bar_text}
use Rattle.flow_schedule.proofs.picture.timetable_picture.Given as goal

-- the bars of the operations so far
abbrev pub invariant-loop-operation : goal.invariant-loop-operation
invariant-loop-operation l = l.out.items
    ≡ l.initial.out.items ++ flat_map (bar_text l.breadth l.makespan l.path.items)
    (take l.operation-index l.operation-items)
