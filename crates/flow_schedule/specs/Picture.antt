-- The picture of a sequence: what its bars show, and where, and its whole text.
use Rattle.std.specs.Prelude.{ℕ, ◌≡◌, ◌+◌, ◌-◌, ◌*◌, ◌/◌, ◌%◌, min, Bool, ◌&&◌, nat_lt, nat_le, nat_eq, if◌then◌else◌}
use Rattle.std.specs.Prelude.{Option, List, [], ◌∷◌, ◌++◌, length, slice_index, slice_range, codes, decimal}
use Rattle.std.specs.List.{flat_map}
use Rattle.flow_shop.specs.Shop.{Shop}
use Rattle.flow_shop.specs.Paths.{span}
use Rattle.flow_schedule.specs.Timetable.{timetable}
use Rattle.flow_schedule.specs.Scale.{breadth_of, x_of, y_of, steps_of, IsTickStep}
use Rattle.flow_schedule.specs.PictureHead.{head_text}
use Rattle.flow_schedule.specs.HeaviestPath.{IsHeaviestPath}
use Rattle.flow_schedule.specs.declared.operations.Operation.{Operation}

-- how wide the bar of an operation is: its right end stays white, 80 units of it but no more than a quarter
abbrev pub width_of : ℕ → ℕ
width_of room = room - min 80 (room / 4)

-- eight colours, dark and light in turn, so that neighbours differ in grey too; that they do, and that the numbers are
-- read on them, `tests/pictures` computes
unfoldable pub palette : List ℕ
palette = codes "#004C7F#F0C800#8F2D00#7CC4F0#00594A#F2A65A#5B2A86#F2B6D2"

-- the colour of the job at a place
abbrev pub colour : ℕ → List ℕ
colour place = slice_range palette ((place - 1) % 8 * 7) ((place - 1) % 8 * 7 + 7)

-- the end of an opening tag of a label, which is white on a dark colour, and else black
abbrev pub ink : ℕ → List ℕ
ink place = if nat_eq (place % 2) 1 then codes "\" fill=\"#ffffff\">" else codes "\">"

-- whether a path, given by the last machine of each job, goes over an operation: a job takes the machines from its
-- predecessor's last, or from machine 1, to its own last
abbrev pub is_on_path : List ℕ → Operation → Bool
is_on_path path operation =
    nat_le (slice_index (1 ∷ path) (operation.place - 1)) operation.machine
    && nat_le operation.machine (slice_index path (operation.place - 1))

-- where the bar of an operation stands, and how wide it is
abbrev pub position_text : ℕ → ℕ → Operation → List ℕ
position_text x width operation =
    codes "<rect x=\"" ++ decimal x ++ codes "\" y=\"" ++ decimal (y_of operation.machine) ++ codes "\" width=\""
    ++ decimal width

-- an outline of a bar: black lines along its upper and its lower side, and none at its ends, so that a narrow bar keeps
-- its colour
abbrev pub outline_text : ℕ → List ℕ
outline_text width =
    codes "\" stroke=\"#000000\" stroke-width=\"300\" stroke-dasharray=\"" ++ decimal width ++ codes " 2400"

-- the height of a bar and its colour, and an outline where it is on the path
abbrev pub style_text : List ℕ → ℕ → Operation → List ℕ
style_text path width operation =
    codes "\" height=\"2400\" fill=\"" ++ colour operation.place
    ++ (if is_on_path path operation then outline_text width else [])

-- its job and machine, for a reader who points at it
abbrev pub names_text : Operation → List ℕ
names_text operation =
    codes "\"><title>job " ++ decimal operation.job ++ codes ", machine " ++ decimal operation.machine

-- its start and end
abbrev pub times_text : Operation → List ℕ
times_text operation =
    codes ", start " ++ decimal operation.start ++ codes ", end " ++ decimal operation.end ++ codes "</title></rect>\n"

-- the number of the job in the bar, where there is room
abbrev pub label_text : ℕ → ℕ → Operation → List ℕ
label_text x width operation =
    if nat_le (length (decimal operation.job) * 640 + 160) width
    then codes "<text x=\"" ++ decimal (x + width / 2) ++ codes "\" y=\"" ++ decimal (y_of operation.machine + 1560)
    ++ ink operation.place ++ decimal operation.job ++ codes "</text>\n"
    else []

-- the bar of an operation, which begins at x
abbrev pub drawn_text : List ℕ → ℕ → ℕ → Operation → List ℕ
drawn_text path x width operation =
    position_text x width operation ++ style_text path width operation ++ names_text operation ++ times_text operation
    ++ label_text x width operation

-- what is drawn of an operation: nothing where it takes no time
abbrev pub bar_text : ℕ → ℕ → List ℕ → Operation → List ℕ
bar_text breadth makespan path operation =
    if nat_lt operation.start operation.end
    then drawn_text path (x_of breadth makespan operation.start)
    (width_of (x_of breadth makespan operation.end - x_of breadth makespan operation.start)) operation else []

-- a text is a picture of the sequence with a lower bound: after the head come the bars in the order of the timetable,
-- and the outlined ones are those of a heaviest path. Each byte is given but for which heaviest path it is
pub record IsPicture (shop : Shop) (sequence : List ℕ) (lower : Option ℕ) (text : List ℕ) : Type 0 where
  pub step : ℕ
  pub path : List ℕ
  pub ticks : IsTickStep (span shop sequence) (steps_of (breadth_of shop)) step
  pub heaviest : IsHeaviestPath shop sequence path
  pub whole : text ≡ head_text shop (breadth_of shop) (span shop sequence) lower step
      ++ flat_map (bar_text (breadth_of shop) (span shop sequence) path) (timetable shop sequence)
      ++ codes "</g></svg>\n"
