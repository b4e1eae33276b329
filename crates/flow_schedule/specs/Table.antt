-- The timetable as a CSV table.
use Rattle.std.specs.Prelude.{ℕ, List, ◌++◌, codes, decimal}
use Rattle.std.specs.List.{flat_map}
use Rattle.flow_shop.specs.Shop.{Shop}
use Rattle.flow_schedule.specs.Timetable.{timetable}
use Rattle.flow_schedule.specs.declared.operations.Operation.{Operation}

-- the line of an operation: its job, machine, start and end
abbrev pub csv_line : Operation → List ℕ
csv_line operation =
    decimal operation.job ++ codes "," ++ decimal operation.machine ++ codes "," ++ decimal operation.start
    ++ codes "," ++ decimal operation.end ++ codes "\n"

-- the table: a line with the names of the columns, and a line for each operation of the timetable
abbrev pub csv_text : Shop → List ℕ → List ℕ
csv_text shop sequence = codes "job,machine,start,end\n" ++ flat_map csv_line (timetable shop sequence)
