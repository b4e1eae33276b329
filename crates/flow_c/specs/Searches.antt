-- What a part of a search for directions gives, and why it gives nothing. `library/flowshop.h` has the same numbers.
use Rattle.std.specs.Prelude.{ℕ, ◌≡◌, ◌+◌, ◌*◌, ◌<◌, ◌≤◌, List, [], ◌∷◌, ◌++◌, length, take, Option, None}
use Rattle.std.specs.Global.{Vec}
use Rattle.std.specs.List.{flat_map}
use Rattle.std.specs.Option.{option_map}
use Rattle.flow_shop.specs.Paths.{span}
use Rattle.flow_shop.specs.Refusals.{first_fault}
use Rattle.flow_shop.specs.Shop.{Shop}
use Rattle.flow_shop.specs.SequenceFaults.{place_fault}
use Rattle.flow_shop.specs.declared.end.End.{End}
use Rattle.flow_shop.specs.declared.end.End.TheVariants.{Front, Back}
use Rattle.flow_shop.specs.Directions.{ProvesFrom}
use Rattle.flow_directions.specs.Search.{directions_of, first_below, IsFound, IsOfNode, IsRest}
use Rattle.flow_directions.specs.declared.found.Found.TheVariants as found
use Rattle.flow_directions.specs.declared.found.Part.{Part}
use Rattle.flow_directions.specs.declared.found.Part.TheVariants.{Node, Children}
use Rattle.flow_c.specs.Faults.{numbers_fault, room_fault}
use Rattle.flow_c.specs.declared.shop.ShopNumbers.{ShopNumbers}
use Rattle.flow_c.specs.declared.node.NodeLists.{NodeLists}
use Rattle.flow_c.specs.declared.came.Came.{Came}
use Rattle.flow_c.specs.declared.came.Came.TheVariants.{Proved, Below, Rest}
use Rattle.flow_c.specs.declared.fault.Fault.{Fault}
use Rattle.flow_c.specs.declared.fault.Fault.TheVariants.{Room, Instance, Sequence}

-- the directions prove the threshold
abbrev pub proved : ℕ
proved = 1

-- a sequence is below the threshold
abbrev pub below : ℕ
below = 2

-- there are more directions than there may be
abbrev pub over : ℕ
over = 3

-- the number of an end
abbrev pub number_of : End → ℕ
number_of Front = 1
number_of Back = 2

-- the numbers of three lists, the last one with a number: how many jobs each has, that number, and the jobs
abbrev pub listed : List ℕ → List ℕ → List ℕ → ℕ → List ℕ
listed first last jobs end = length first ∷ length last ∷ length jobs ∷ end ∷ first ++ last ++ jobs

-- the numbers of a part: a node has no third list, and 0 in the place of an end
abbrev pub numbers_of : Part → List ℕ
numbers_of (Node first last) = listed first.items last.items [] 0
numbers_of (Children first last end jobs) = listed first.items last.items jobs.items (number_of end)

-- what a search of a node came to, with a budget of directions, of which it took these
abbrev pub IsCome : Shop → ℕ → ℕ → NodeLists → List ℕ → Came → Type 0
IsCome shop threshold budget node text Proved =
    (first_below shop threshold node.first.now node.last.now ≡ None)
    × (text ≡ directions_of shop threshold node.first.now node.last.now) × (length text ≤ budget)
IsCome shop threshold budget node text (Below sequence makespan) =
    IsFound shop threshold budget node.first.now node.last.now (found.Below sequence makespan (length text))
    × (text ≡ directions_of shop threshold node.first.now node.last.now)
IsCome shop threshold budget node text (Rest parts) =
    IsRest shop threshold budget node.first.now node.last.now text parts.items

-- what a search came to, as it is told: what it is, the jobs of a sequence, its makespan, and the numbers of the parts
-- that are left
abbrev pub IsTold : Came → ℕ → List ℕ → ℕ → List ℕ → Type 0
IsTold Proved found jobs makespan rest = (found ≡ proved) × (makespan ≡ 0) × (rest ≡ [])
IsTold (Below sequence value) found jobs makespan rest =
    (found ≡ below) × (makespan ≡ value) × (rest ≡ []) × (take (length sequence) jobs ≡ sequence)
IsTold (Rest parts) found jobs makespan rest =
    (found ≡ over) × (makespan ≡ 0) × (rest ≡ flat_map numbers_of parts.items)

-- a search of a node with a budget came to what is told so, with these directions
abbrev pub IsSearched : Shop → ℕ → ℕ → NodeLists → ℕ → List ℕ → ℕ → List ℕ → List ℕ → Type 0
IsSearched shop threshold budget node found jobs makespan directions rest =
    (came : Came) × IsCome shop threshold budget node directions came × IsTold came found jobs makespan rest

-- the same, with so many directions
abbrev pub IsCounted : Shop → ℕ → ℕ → NodeLists → ℕ → List ℕ → ℕ → ℕ → List ℕ → Type 0
IsCounted shop threshold budget node found jobs makespan count rest =
    (directions : List ℕ) × IsSearched shop threshold budget node found jobs makespan directions rest
    × (count ≡ length directions)

-- the directions of a node prove a threshold, and there are so many
abbrev pub IsProvedBy : Shop → ℕ → NodeLists → ℕ → Type 0
IsProvedBy shop threshold node count =
    ProvesFrom shop threshold node.first.now node.last.now
    (directions_of shop threshold node.first.now node.last.now)
    × (count ≡ length (directions_of shop threshold node.first.now node.last.now))

-- a sequence of a node has this makespan, and it is below a threshold
abbrev pub IsBelow : Shop → ℕ → NodeLists → List ℕ → ℕ → Type 0
IsBelow shop threshold node sequence makespan =
    IsOfNode shop node.first.now node.last.now sequence × (span shop sequence ≡ makespan) × (makespan < threshold)

-- why nothing is searched: the numbers are no instance, the lists no node of it, or a sequence has no room
abbrev pub prove_fault : ShopNumbers → NodeLists → ℕ → Option Fault
prove_fault numbers node entries = first_fault (
    option_map Instance (numbers_fault numbers)
    ∷ option_map Sequence (place_fault numbers.jobs [] (node.first.now ++ node.last.now))
    ∷ room_fault numbers.jobs entries
    ∷ [])

-- so many entries are enough for the numbers of the parts that a search of an instance with so many jobs leaves
abbrev pub most_rest : ℕ → ℕ
most_rest jobs = jobs * (jobs + 4)

-- a search leaves parts, and there are fewer entries than they have numbers; the fault says how many they have, which
-- is no more than are always enough
abbrev pub IsRestTooLong : Shop → ℕ → ℕ → NodeLists → ℕ → Fault → Type 0
IsRestTooLong shop threshold budget node entries fault =
    (text : List ℕ) × (parts : Vec Part) × IsCome shop threshold budget node text (Rest parts)
    × (fault ≡ Room (length (flat_map numbers_of parts.items))) × (entries < length (flat_map numbers_of parts.items))
    × (length (flat_map numbers_of parts.items) ≤ most_rest shop.jobs)
