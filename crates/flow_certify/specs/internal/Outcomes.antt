-- What a search for directions came to, with their signs or counted.
use Rattle.std.specs.Prelude.{ℕ, ◌≡◌, ◌≤◌, Bool, [], length, None}
use Rattle.flow_shop.specs.Shop.{Shop}
use Rattle.flow_directions.specs.Search.{IsFound, directions_of, first_below}
use Rattle.flow_directions.specs.declared.found.Found.{Found}
use Rattle.flow_directions.specs.declared.found.Found.TheVariants as found
use Rattle.flow_directions.specs.declared.found.Counted.{Counted}
use Rattle.flow_directions.specs.declared.found.Counted.TheVariants as counted
use Rattle.flow_certify.specs.Schedule.{run_after}
use Rattle.flow_certify.specs.Searched.{Keeps, count_of, has_signs}
use Rattle.flow_certify.specs.declared.run.Run.{Run}
use Rattle.flow_certify.specs.declared.task.Answer.{Answer}
use Rattle.flow_certify.specs.declared.task.Answer.TheVariants as answer
use Rattle.flow_certify.specs.declared.task.Task.{Task}
use Rattle.flow_certify.specs.declared.proof.Proof.TheVariants.{Signs, Count}
use Rattle.flow_certify.specs.declared.proof.Outcome.{Outcome}
use Rattle.flow_certify.specs.declared.proof.Outcome.TheVariants.{Proved, Below, Over}

-- what a search below a threshold came to, with a budget of directions: as `IsFound` says, with what is kept of the
-- directions in their place
abbrev pub IsOutcome : Shop → ℕ → ℕ → Outcome → Type 0
IsOutcome shop threshold budget (Proved proof) =
    (first_below shop threshold [] [] ≡ None) × Keeps proof (directions_of shop threshold [] [])
    × (length (directions_of shop threshold [] []) ≤ budget)
IsOutcome shop threshold budget (Below sequence makespan directions) =
    IsFound shop threshold budget [] [] (found.Below sequence makespan directions)
IsOutcome shop threshold budget Over = IsFound shop threshold budget [] [] found.Over

-- the answer of a search that came to this
abbrev pub answer_to : Outcome → Answer
answer_to (Proved proof) = answer.Proved (count_of proof)
answer_to (Below sequence makespan directions) = answer.Below makespan directions
answer_to Over = answer.Over

-- a run is told what a search below a threshold came to, with a budget of directions
abbrev pub IsToldOf : Shop → ℕ → ℕ → Task → Run → Run → Type 0
IsToldOf shop threshold budget task before after =
    (outcome : Outcome) × IsOutcome shop threshold budget outcome × (after ≡ run_after before task (answer_to outcome))

-- what is proved has signs exactly where they are to be kept
abbrev pub HasForm : Bool → Outcome → Type 0
HasForm keeps_signs (Proved proof) = has_signs proof ≡ keeps_signs
HasForm keeps_signs (Below sequence makespan directions) = Unit {0}
HasForm keeps_signs Over = Unit {0}

-- what is found, with the signs
abbrev pub found_outcome : Found → Outcome
found_outcome (found.Proved signs) = Proved (Signs signs)
found_outcome (found.Below sequence makespan directions) = Below sequence makespan directions
found_outcome found.Over = Over

-- what is found by counting
abbrev pub counted_outcome : Counted → Outcome
counted_outcome (counted.Proved count) = Proved (Count count)
counted_outcome (counted.Below sequence makespan directions) = Below sequence makespan directions
counted_outcome counted.Over = Over
