-- The head of a picture: all of its text before the first bar.
use Rattle.std.specs.Prelude.{ℕ, ◌+◌, ◌*◌, ◌/◌, Option, Some, None, nat_lt, nat_eq, if◌then◌else◌}
use Rattle.std.specs.Prelude.{List, ◌++◌, codes, decimal}
use Rattle.std.specs.List.{flat_map}
use Rattle.flow_shop.specs.Shop.{Shop, numbers}
use Rattle.flow_schedule.specs.Scale.{x_of, y_of, bottom_of}

-- A pixel has 100 units.

-- the opening of the svg element, with the size of a picture
abbrev pub svg_text : ℕ → ℕ → List ℕ
svg_text width height =
    codes "<svg xmlns=\"http://www.w3.org/2000/svg\" width=\"" ++ decimal (width / 100) ++ codes "\" height=\""
    ++ decimal (height / 100) ++ codes "\" viewBox=\"0 0 " ++ decimal width ++ codes " " ++ decimal height
    ++ codes "\" font-family=\"sans-serif\" font-size=\"1200\">\n"

-- the makespan, and what a lower bound says of it: that it is optimal, or how far another sequence may be below it;
-- a number above the makespan is no lower bound, and says nothing
abbrev pub value_text : ℕ → Option ℕ → List ℕ
value_text makespan None = codes "makespan " ++ decimal makespan
value_text makespan (Some lower) =
    if nat_eq lower makespan then codes "optimal " ++ decimal makespan
    else if nat_lt lower makespan
    then codes "makespan " ++ decimal makespan ++ codes ", lower bound " ++ decimal lower
    else codes "makespan " ++ decimal makespan

-- the makespan with its lower bound, and the sizes of the shop
abbrev pub sizes_text : Shop → ℕ → Option ℕ → List ℕ
sizes_text shop makespan lower =
    value_text makespan lower ++ codes ", jobs " ++ decimal shop.jobs ++ codes ", machines " ++ decimal shop.machines

-- the title, which a screen reader says
abbrev pub title_text : Shop → ℕ → Option ℕ → List ℕ
title_text shop makespan lower = codes "<title>" ++ sizes_text shop makespan lower ++ codes "</title>\n"

-- a white sheet as high and wide as the picture
abbrev pub sheet_text : ℕ → ℕ → List ℕ
sheet_text width height =
    codes "<path d=\"M0 0H" ++ decimal width ++ codes "V" ++ decimal height ++ codes "H0z\" fill=\"#ffffff\"/>\n"

-- the heading above the rows
abbrev pub heading_text : Shop → ℕ → Option ℕ → List ℕ
heading_text shop makespan lower =
    codes "<text x=\"" ++ decimal 9000 ++ codes "\" y=\"2400\" font-size=\"1600\">" ++ sizes_text shop makespan lower
    ++ codes "</text>\n"

-- what the outline means, below the heading
abbrev pub legend_text : List ℕ
legend_text =
    codes "<text x=\"" ++ decimal 9000 ++ codes "\" y=\"4700\">"
    ++ codes "outlined: these operations leave no room; together they take the whole time</text>\n"

-- a tick of the axis at a time: a line through the rows
abbrev pub line_text : ℕ → ℕ → ℕ → ℕ → List ℕ
line_text breadth makespan bottom time =
    codes "<line x1=\"" ++ decimal (x_of breadth makespan time) ++ codes "\" y1=\"" ++ decimal 5900
    ++ codes "\" x2=\"" ++ decimal (x_of breadth makespan time) ++ codes "\" y2=\"" ++ decimal (bottom + 500)
    ++ codes "\" stroke=\"#bbbbbb\" stroke-width=\"60\"/>"

-- and the time, below the rows
abbrev pub time_text : ℕ → ℕ → ℕ → ℕ → List ℕ
time_text breadth makespan bottom time =
    codes "<text x=\"" ++ decimal (x_of breadth makespan time) ++ codes "\" y=\"" ++ decimal (bottom + 2000)
    ++ codes "\" text-anchor=\"middle\">" ++ decimal time ++ codes "</text>\n"

-- the tick after so many steps
abbrev pub tick_text : ℕ → ℕ → ℕ → ℕ → ℕ → List ℕ
tick_text breadth makespan bottom step count =
    line_text breadth makespan bottom (count * step) ++ time_text breadth makespan bottom (count * step)

-- the ticks, from time 0 to the makespan
abbrev pub ticks_text : ℕ → ℕ → ℕ → ℕ → List ℕ
ticks_text breadth makespan bottom step =
    flat_map (tick_text breadth makespan bottom step) (numbers 0 (makespan / step))

-- the name of the axis, left of its times
abbrev pub axis_name_text : ℕ → List ℕ
axis_name_text bottom =
    codes "<text x=\"" ++ decimal 8000 ++ codes "\" y=\"" ++ decimal (bottom + 2000)
    ++ codes "\" text-anchor=\"end\">time</text>\n"

-- the name of a machine, left of its row
abbrev pub machine_name_text : ℕ → List ℕ
machine_name_text machine =
    codes "<text x=\"" ++ decimal 8000 ++ codes "\" y=\"" ++ decimal (y_of machine + 1650)
    ++ codes "\" text-anchor=\"end\">machine " ++ decimal machine ++ codes "</text>\n"

-- what stands above the rows of a picture of some size
abbrev pub top_text : Shop → ℕ → Option ℕ → ℕ → ℕ → List ℕ
top_text shop makespan lower width height =
    svg_text width height ++ title_text shop makespan lower ++ sheet_text width height
    ++ heading_text shop makespan lower ++ legend_text

-- the head of a picture of the shop with a makespan of this breadth and a lower bound, whose ticks are a step apart;
-- the group of the bars opens last
abbrev pub head_text : Shop → ℕ → ℕ → Option ℕ → ℕ → List ℕ
head_text shop breadth makespan lower step =
    top_text shop makespan lower (9000 + breadth + 4500) (bottom_of shop.machines + 3400)
    ++ ticks_text breadth makespan (bottom_of shop.machines) step ++ axis_name_text (bottom_of shop.machines)
    ++ flat_map machine_name_text (numbers 1 shop.machines) ++ codes "<g text-anchor=\"middle\" font-size=\"1000\">\n"
