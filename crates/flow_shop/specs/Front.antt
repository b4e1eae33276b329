-- Fronts: when the last job of a list leaves each machine.
use Rattle.std.specs.Prelude.{ℕ, ◌≡◌, ◌<◌, ◌≤◌, List, slice_index}
use Rattle.flow_limits.specs.Limits.{greatest_completion}
use Rattle.flow_shop.specs.Shop.{Shop, AreOf}
use Rattle.flow_shop.specs.Paths.{completion}

-- a front has a time for each machine. It is the front of a list of jobs where these are the times at which the list's
-- last job leaves the machines of the instance
abbrev pub IsFrontOf : Shop → List ℕ → List ℕ → Type 0
IsFrontOf shop jobs front = AreOf shop (completion shop jobs) front

-- on the instance's machines no time is above `greatest_completion`, so that one more job can't overflow
abbrev pub IsWithinFront : Shop → List ℕ → Type 0
IsWithinFront shop front = (place : ℕ) → place < shop.machines → slice_index front place ≤ greatest_completion

-- two fronts have the same times, but for those on the instance's machines
abbrev pub SameElsewhere : Shop → List ℕ → List ℕ → Type 0
SameElsewhere shop old new = (place : ℕ) → shop.machines ≤ place → slice_index new place ≡ slice_index old place
