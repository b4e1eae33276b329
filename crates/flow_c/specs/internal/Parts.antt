-- What a search came to, in the course of a call.
use Rattle.std.specs.Prelude.{ℕ, ◌≡◌, ◌≤◌, List, [], length, All}
use Rattle.flow_limits.specs.Limits.{most_jobs}
use Rattle.flow_shop.specs.Shop.{Shop}
use Rattle.flow_directions.specs.declared.found.Part.{Part}
use Rattle.flow_directions.specs.declared.found.Part.TheVariants.{Node, Children}
use Rattle.flow_c.specs.Searches.{IsCome, IsTold}
use Rattle.flow_c.specs.declared.node.NodeLists.{NodeLists}
use Rattle.flow_c.specs.declared.came.Came.{Came}
use Rattle.flow_c.specs.declared.came.Came.TheVariants.{Proved, Below, Rest}
use Rattle.flow_c.specs.declared.came.Told.{Told}

-- a list has no more jobs than a shop
abbrev pub IsList : List ℕ → Type 0
IsList jobs = length jobs ≤ most_jobs

-- no list of a part has more
abbrev pub IsShort : Part → Type 0
IsShort (Node first last) = IsList first.items × IsList last.items
IsShort (Children first last end jobs) = IsList first.items × IsList last.items × IsList jobs.items

-- a search leaves such parts
abbrev pub LeavesShort : Came → Type 0
LeavesShort Proved = Unit {0}
LeavesShort (Below sequence makespan) = Unit {0}
LeavesShort (Rest parts) = All IsShort parts.items

-- the sequence that a search reached; nothing where it reached none
abbrev pub sequence_of : Came → List ℕ
sequence_of Proved = []
sequence_of (Below sequence makespan) = sequence
sequence_of (Rest parts) = []

-- what a search came to is told so, with its sequence alone
abbrev pub IsToldBy : Came → Told → Type 0
IsToldBy came told =
    IsTold came told.found told.sequence.items told.makespan told.rest.items
    × (told.sequence.items ≡ sequence_of came)

-- a search of a node with a budget came to what is told so, with these directions
abbrev pub IsComeTo : Shop → ℕ → ℕ → NodeLists → List ℕ → Told → Type 0
IsComeTo shop threshold budget node text told =
    (came : Came) × IsCome shop threshold budget node text came × IsToldBy came told
