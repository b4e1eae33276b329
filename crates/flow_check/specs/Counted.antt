-- Counted certificates: texts that prove bounds by a count. Such a text states a lower bound, an upper bound, a
-- sequence, and how many nodes the search below the lower bound opens. Where both bounds are the same, they are the
-- least makespan.
use Rattle.std.specs.Prelude.{ℕ, ◌≡◌, ◌^◌, ◌<◌, ◌≤◌, List, [], ◌++◌, length, codes, None}
use Rattle.std.specs.Fmt.{decimal}
use Rattle.flow_shop.specs.Shop.{Shop, IsWithinLimits}
use Rattle.flow_directions.specs.Search.{directions_of, first_below}
use Rattle.flow_check.specs.Bounds.{AreProved}
use Rattle.flow_check.specs.TextLines.{line, ending}
use Rattle.flow_check.specs.FourLines.{sequence_lines, ShowsUpper}
use Rattle.flow_check.specs.declared.bounds.Bounds.{Bounds}

-- the first line, with its end
abbrev pub counted_title : List ℕ
counted_title = line (codes "flowshop counted 1")

-- the most nodes that a reader allows who names no other number
abbrev pub most_nodes : ℕ
most_nodes = 10000000000

-- a whole text, with its count
abbrev pub counted_text : Shop → Bounds → List ℕ → ℕ → List ℕ
counted_text shop bounds sequence count =
    sequence_lines counted_title shop bounds sequence ++ line (decimal count) ++ line ending

-- how many nodes the search below a threshold opens, from the node of two empty lists, before it ends or reaches a
-- sequence
abbrev pub nodes_below : Shop → ℕ → ℕ
nodes_below shop threshold = length (directions_of shop threshold [] [])

-- that search reaches no sequence, and opens so many nodes
pub record OpensInAll (shop : Shop) (threshold count : ℕ) : Type 0 where
  pub none : first_below shop threshold [] [] ≡ None
  pub nodes : nodes_below shop threshold ≡ count

-- what a text shows: a sequence whose makespan is the upper bound, and how many nodes the search below the lower bound
-- opens, which reaches no sequence; bounds and count are below 2 to the 64th
pub record ShowsCount (shop : Shop) (bounds : Bounds) (sequence : List ℕ) (count : ℕ) : Type 0 where
  pub upper : ShowsUpper shop bounds sequence
  pub fits : count < 2 ^ 64
  pub opens : OpensInAll shop bounds.lower count

-- a text is a lawful counted certificate of these bounds, with this sequence
-- (law: counted_is_sound, counted_states_one)
pub record IsCountedText (shop : Shop) (bytes : List ℕ) (bounds : Bounds) (sequence : List ℕ) : Type 0 where
  pub count : ℕ
  pub shows : ShowsCount shop bounds sequence count
  pub text : bytes ≡ counted_text shop bounds sequence count

-- a text is a lawful counted certificate, and states no more nodes than these
abbrev pub IsCountedWithin : Shop → ℕ → List ℕ → Type 0
IsCountedWithin shop most bytes =
    (bounds : Bounds) × (sequence : List ℕ) × (is : IsCountedText shop bytes bounds sequence) × (is.count ≤ most)

-- a text is a lawful counted certificate, and states more nodes than these
abbrev pub IsCountedAbove : Shop → ℕ → List ℕ → Type 0
IsCountedAbove shop most bytes =
    (bounds : Bounds) × (sequence : List ℕ) × (is : IsCountedText shop bytes bounds sequence) × (most < is.count)

-- the bounds of a lawful text, whoever made it, are proved (law: counted_is_sound)
abbrev pub CountedIsSound : Type 0
CountedIsSound =
    (shop : Shop) (bytes : List ℕ) (bounds : Bounds) (sequence : List ℕ) →
    IsCountedText shop bytes bounds sequence → AreProved shop bounds

-- a text states one pair of bounds, one sequence and one count (law: counted_states_one)
abbrev pub CountedStatesOne : Type 0
CountedStatesOne =
    (shop : Shop) (bytes : List ℕ) (bounds other : Bounds) (sequence jobs : List ℕ) → IsWithinLimits shop →
    (one : IsCountedText shop bytes bounds sequence) (another : IsCountedText shop bytes other jobs) →
    (bounds ≡ other) × (sequence ≡ jobs) × (one.count ≡ another.count)
