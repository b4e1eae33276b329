-- What a search came to, apart from its directions.
use Rattle.std.specs.Prelude.{ℕ, ◌≡◌, ◌≤◌, List, length, None}
use Rattle.flow_shop.specs.Shop.{Shop}
use Rattle.flow_shop.specs.Paths.{span}
use Rattle.flow_directions.specs.Search.{IsFound, IsRest, directions_of, first_below}
use Rattle.flow_directions.specs.declared.found.Found.TheVariants as found
use Rattle.flow_directions.specs.declared.found.Outcome.{Outcome}
use Rattle.flow_directions.specs.declared.found.Outcome.TheVariants.{Proved, Below, Rest}

-- what a search came to is this sequence, with its makespan
abbrev pub IsReached : Shop → List ℕ → Outcome → Type 0
IsReached shop jobs Proved = ⊥
IsReached shop jobs (Below sequence makespan) = (sequence ≡ jobs) × (makespan ≡ span shop jobs)
IsReached shop jobs (Rest parts) = ⊥

-- what a search of a node came to, with a budget of directions, of which it took these
abbrev pub IsOutcome : Shop → ℕ → ℕ → List ℕ → List ℕ → List ℕ → Outcome → Type 0
IsOutcome shop threshold budget first last text Proved =
    (first_below shop threshold first last ≡ None) × (text ≡ directions_of shop threshold first last)
    × (length text ≤ budget)
IsOutcome shop threshold budget first last text (Below sequence makespan) =
    IsFound shop threshold budget first last (found.Below sequence makespan (length text))
    × (text ≡ directions_of shop threshold first last)
IsOutcome shop threshold budget first last text (Rest parts) =
    IsRest shop threshold budget first last text parts.items

-- what it came to, where this is known of its directions
abbrev pub HasCome : (List ℕ → Type 0) → Shop → ℕ → ℕ → List ℕ → List ℕ → Outcome → Type 0
HasCome are shop threshold budget first last outcome =
    (text : List ℕ) × are text × IsOutcome shop threshold budget first last text outcome
