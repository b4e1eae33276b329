-- What the lines of two bounds and a sequence begin with, as they are read.
use Rattle.std.specs.Prelude.{ℕ, ◌≡◌, List, [], ◌∷◌, ◌++◌}
use Rattle.flow_check.specs.TextLines.{line, spaced}
use Rattle.flow_check.specs.FourLines.{AreInRange}
use Rattle.flow_check.specs.declared.bounds.Bounds.{Bounds}

-- a text begins with the line of so many jobs and machines
abbrev pub BeginsWithJobs : ℕ → ℕ → List ℕ → List ℕ → Type 0
BeginsWithJobs jobs machines text rest = text ≡ line (spaced (jobs ∷ machines ∷ [])) ++ rest

-- a text begins with the line of two bounds
abbrev pub BeginsWithBounds : List ℕ → Bounds → List ℕ → Type 0
BeginsWithBounds text bounds rest =
    AreInRange bounds × (text ≡ line (spaced (bounds.lower ∷ bounds.upper ∷ [])) ++ rest)
