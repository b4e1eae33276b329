-- What a search on threads came to.
use Rattle.std.specs.Prelude.{ℕ, ◌≡◌, ◌≤◌, ◌<◌, List, [], length, map, None}
use Rattle.std.specs.Global.{Vec}
use Rattle.flow_shop.specs.Shop.{Shop}
use Rattle.flow_shop.specs.Paths.{span}
use Rattle.flow_directions.specs.Search.{IsFound, directions_of, first_below}
use Rattle.flow_directions.specs.declared.found.Found.{Found}
use Rattle.flow_directions.specs.declared.found.Found.TheVariants as found
use Rattle.flow_directions.specs.declared.found.Counted.{Counted}
use Rattle.flow_directions.specs.declared.found.Counted.TheVariants as counted
use Rattle.flow_workers.specs.declared.workers.Ended.{Ended}
use Rattle.flow_workers.specs.declared.workers.Ended.TheVariants.{Proved, Below, Over}
use Rattle.flow_workers.specs.internal.Pieces.{Reading}

-- what a search of the node of two empty lists came to, with a budget of directions: as `IsFound` says, with what is
-- kept of the directions in their place
abbrev pub IsEnded : {K : Type 0} → Reading K → ℕ → Ended K → Type 0
IsEnded reading budget (Proved directions) =
    (first_below reading.shop reading.threshold [] [] ≡ None)
    × (reading.text directions ≡ map reading.mark (directions_of reading.shop reading.threshold [] []))
    × (length (reading.text directions) ≤ budget)
IsEnded reading budget (Below sequence makespan directions) =
    IsFound reading.shop reading.threshold budget [] [] (found.Below sequence makespan directions)
IsEnded reading budget Over = IsFound reading.shop reading.threshold budget [] [] found.Over

-- what a search came to that reached a sequence after so many directions
abbrev pub ReachedWithin : {K : Type 0} → Shop → ℕ → List ℕ → ℕ → Ended K → Type 0
ReachedWithin shop budget jobs count (Proved directions) = ⊥
ReachedWithin shop budget jobs count (Below sequence makespan directions) =
    (sequence ≡ jobs) × (makespan ≡ span shop jobs) × (directions ≡ count) × (count ≤ budget)
ReachedWithin shop budget jobs count Over = budget < count

-- what is found, where the signs are kept
abbrev pub found_of : Ended (Vec ℕ) → Found
found_of (Proved text) = found.Proved text
found_of (Below sequence makespan directions) = found.Below sequence makespan directions
found_of Over = found.Over

-- what is counted, where the number of directions is kept
abbrev pub counted_of : Ended ℕ → Counted
counted_of (Proved count) = counted.Proved count
counted_of (Below sequence makespan directions) = counted.Below sequence makespan directions
counted_of Over = counted.Over
