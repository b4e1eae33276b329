-- Searches that are shared: what numbers say of an answer, what a call answers, and which answers are true.
use Rattle.std.specs.Prelude.{ℕ, ◌≡◌, ◌+◌, ◌-◌, ◌^◌, ◌⊎◌, min, nat_eq, not, true, false, List, ◌++◌, length}
use Rattle.std.specs.Prelude.{Option, Some, None}
use Rattle.std.specs.List.{flat_map, range_with_len}
use Rattle.flow_shop.specs.Shop.{Shop}
use Rattle.flow_directions.specs.Search.{Visit, visits, parts_visits, Continues}
use Rattle.flow_parts.specs.Meanings.{Meaning, IsTrueAnswer}
use Rattle.flow_parts.specs.Searches.{GivesNone, GivesPlace}
use Rattle.flow_parts.specs.declared.place.Place.{Place}
use Rattle.flow_parts.specs.declared.search.Search.{Search}
use Rattle.flow_parts.specs.declared.answer.Searched.{Searched}
use Rattle.flow_parts.specs.declared.answer.Put.{Put}
use Rattle.flow_parts.specs.declared.answer.Put.TheVariants.{Taken, Late, NoRoom, TooMany}
use Rattle.flow_parts.specs.declared.answer.Decided.{Decided}
use Rattle.flow_parts.specs.declared.answer.Decided.TheVariants.{Proved, Below, Over}
use Rattle.flow_c.specs.declared.fault.Fault.{Fault}
use Rattle.flow_c.specs.declared.fault.Fault.TheVariants.{Room, NoAnswer}
use Rattle.flow_c.specs.Searches.{proved, below, over, IsCome}
use Rattle.flow_c.specs.declared.came.Came.{Came}
use Rattle.flow_c.specs.declared.came.Came.TheVariants as came
use Rattle.flow_c.specs.declared.node.NodeLists.{NodeLists}
use Rattle.flow_c.specs.declared.search.SearchedNumbers.{SearchedNumbers}

-- what became of a place, as numbers say it
abbrev pub searched_of : SearchedNumbers → Searched
searched_of numbers =
    record { written = numbers.written; left = numbers.left; reached = not (nat_eq numbers.reached 0) }

-- one more than the place that is given, the first in order that waits; 0 where none waits
abbrev pub IsGiven : Search → List Place → List Place → List ℕ → ℕ → Type 0
IsGiven search old new order place =
    ((place ≡ 0) × GivesNone search old new order)
    ⊎ ((number : ℕ) × (place ≡ number + 1) × GivesPlace search old new order number)

-- how many places there are with those that are left
abbrev pub needed_places : Search → SearchedNumbers → ℕ
needed_places search numbers = min (search.places + numbers.left) (2 ^ 64 - 1)

-- why an answer is refused: there would be 2 to the 64th directions or more, or there is no room for so many places
abbrev pub put_fault : ℕ → Put → Option Fault
put_fault needed (Taken first) = None
put_fault needed Late = None
put_fault needed NoRoom = Some (Room needed)
put_fault needed TooMany = Some NoAnswer

-- one more than the first of the places that are left; 0 where the answer is late
abbrev pub first_number : Put → ℕ
first_number (Taken first) = min (first + 1) (2 ^ 64 - 1)
first_number Late = 0
first_number NoRoom = 0
first_number TooMany = 0

-- the number of what a search came to; 0 where it is not decided
abbrev pub found_number : Option Decided → ℕ
found_number None = 0
found_number (Some (Proved directions)) = proved
found_number (Some (Below place directions)) = below
found_number (Some Over) = over

-- the place at which a sequence was reached, where the search came to one; else 0
abbrev pub found_place : Option Decided → ℕ
found_place None = 0
found_place (Some (Proved directions)) = 0
found_place (Some (Below place directions)) = place
found_place (Some Over) = 0

-- An answer to a place says what a search of a node came to, which took these directions, with those that were taken
-- there before, and with more that is to be met behind the node: the place has all these directions; and the new places
-- stand for the parts that are left and for what is behind them; or a sequence was reached.
abbrev pub Says : Shop → ℕ → Meaning → ℕ → ℕ → Searched → List ℕ → List Visit → List ℕ → Came → Type 0
Says shop threshold meaning number begins searched before more text came.Proved =
    (meaning.text number ≡ before ++ text) × (searched.reached ≡ false)
    × (flat_map meaning.parts (range_with_len begins searched.left) ≡ more)
Says shop threshold meaning number begins searched before more text (came.Below sequence makespan) =
    (meaning.text number ≡ before ++ text) × (searched.reached ≡ true) × (meaning.sequence number ≡ sequence)
Says shop threshold meaning number begins searched before more text (came.Rest parts) =
    (meaning.text number ≡ before ++ text) × (searched.reached ≡ false)
    × (flat_map meaning.parts (range_with_len begins searched.left) ≡ parts_visits shop threshold parts.items ++ more)

-- what the search meets at a node
abbrev pub met_at : Shop → ℕ → NodeLists → List Visit
met_at shop threshold node = visits shop threshold node.first.now node.last.now

-- a search that proves the threshold for a node goes on with what is behind the node (law: answers_are_true)
abbrev pub ProvedGoesOn : Type 0
ProvedGoesOn =
    (shop : Shop) (threshold budget : ℕ) (node : NodeLists) (before text : List ℕ) (all more : List Visit) →
    Continues all before (met_at shop threshold node ++ more) → IsCome shop threshold budget node text came.Proved →
    Continues all (before ++ text) more

-- An answer is true that says what a search of a node came to, where the parts of the place meet the directions that
-- were taken before, then what that node meets, and then the rest. Whether the directions were written or only counted,
-- the answer says how many they are (law: answers_are_true).
abbrev pub AnswersAreTrue : Type 0
AnswersAreTrue =
    (shop : Shop) (threshold budget : ℕ) (node : NodeLists) (before : List ℕ) (more : List Visit) (text : List ℕ)
    (came : Came) (meaning : Meaning) (number begins : ℕ) (searched : Searched) →
    Continues (meaning.parts number) before (met_at shop threshold node ++ more) →
    IsCome shop threshold budget node text came → searched.written ≡ length (meaning.text number) →
    Says shop threshold meaning number begins searched before more text came →
    IsTrueAnswer meaning number begins searched
