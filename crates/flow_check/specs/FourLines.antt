-- The first four lines of a text that states two bounds and a sequence. The first line is a title; each kind of such
-- texts has its own.
use Rattle.std.specs.Prelude.{ℕ, ◌≡◌, ◌^◌, ◌<◌, List, [], ◌∷◌, ◌++◌}
use Rattle.flow_shop.specs.Shop.{Shop}
use Rattle.flow_shop.specs.Paths.{span}
use Rattle.flow_shop.specs.Sequences.{IsSequence}
use Rattle.flow_check.specs.TextLines.{line, spaced}
use Rattle.flow_check.specs.declared.bounds.Bounds.{Bounds}

-- a text with a title, up to the line of the jobs and machines
abbrev pub size_lines : List ℕ → Shop → List ℕ
size_lines title shop = title ++ line (spaced (shop.jobs ∷ shop.machines ∷ []))

-- up to the line of the bounds
abbrev pub bounds_lines : List ℕ → Shop → Bounds → List ℕ
bounds_lines title shop bounds = size_lines title shop ++ line (spaced (bounds.lower ∷ bounds.upper ∷ []))

-- up to the line of the sequence
abbrev pub sequence_lines : List ℕ → Shop → Bounds → List ℕ → List ℕ
sequence_lines title shop bounds sequence = bounds_lines title shop bounds ++ line (spaced sequence)

-- both bounds are within the greatest number that a text states
abbrev pub AreInRange : Bounds → Type 0
AreInRange bounds = (bounds.lower < 2 ^ 64) × (bounds.upper < 2 ^ 64)

-- what these lines show: bounds in this range, and a sequence whose makespan is the upper bound
pub record ShowsUpper (shop : Shop) (bounds : Bounds) (sequence : List ℕ) : Type 0 where
  pub fit : AreInRange bounds
  pub whole : IsSequence shop.jobs sequence
  pub attained : span shop sequence ≡ bounds.upper
