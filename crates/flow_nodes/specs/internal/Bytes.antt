-- What the groups of a node share at an end, as vectors of bytes with the same number in each lane.
use Rattle.std.specs.Prelude.{ℕ, ◌+◌, ◌-◌, ◌<◌, min, List, length, slice_index, slice_index_or}
use Rattle.flow_shop.specs.declared.end.End.{End}
use Rattle.flow_shop.specs.declared.end.End.TheVariants.{Front, Back}
use Rattle.flow_nodes.specs.Vectors.{HasLane}
use Rattle.flow_nodes.specs.declared.node.Node.{Node}

-- by how much what is at an end of a node exceeds, at a place, what is there on the machine that comes before from
-- that end
abbrev pub gap_at : End → Node → ℕ → ℕ
gap_at Front node place = slice_index node.front place - slice_index node.front (place - 1)
gap_at Back node place = slice_index node.back place - slice_index node.back (min (place + 1) 25)

-- vectors that have it in each lane
abbrev pub HaveGaps : End → Node → List (List ℕ) → Type 0
HaveGaps end node gaps =
    (place lane : ℕ) (none : List ℕ) → place < length gaps → lane < 16 →
    HasLane 255 16 (slice_index_or gaps place none) lane (gap_at end node place)

-- vectors that have in each lane how much less than a limit the bound of a node on a machine is, without the limit
abbrev pub HaveSlacks : ℕ → Node → List (List ℕ) → Type 0
HaveSlacks limit node slacks =
    (place lane : ℕ) (none : List ℕ) → place < length slacks → lane < 16 →
    HasLane 255 16 (slice_index_or slacks place none) lane
    (limit - 1 - (slice_index node.front place + slice_index node.work place + slice_index node.back place))
