use Rattle.std.proofs.Common.{◌≡◌, ◌++◌, take, codes, flat_map}
use Rattle.flow_schedule.specs.Table.{csv_line}
use Rattle.flow_schedule.proofs.table.timetable_csv.Given as goal

-- the lines of the operations so far
abbrev pub invariant-loop-operation : goal.invariant-loop-operation
invariant-loop-operation l = l.out.items
    ≡ codes "job,machine,start,end\n" ++ flat_map csv_line (take l.operation-index l.operation-items)
