-- What is shown of two bounds that a text states, of any kind: that they hold, and that they are the least makespan
-- where they are one number.
use Rattle.std.specs.Prelude.{ℕ, ◌≡◌, ◌≤◌, List}
use Rattle.flow_shop.specs.Shop.{Shop}
use Rattle.flow_shop.specs.Paths.{span}
use Rattle.flow_shop.specs.Sequences.{IsSequence, IsLowerBound, IsLeastMakespan}
use Rattle.flow_check.specs.declared.bounds.Bounds.{Bounds}

-- no sequence is below the lower bound, and one has the upper bound as its makespan; so the least makespan is between
-- them
pub record AreBounds (shop : Shop) (bounds : Bounds) : Type 0 where
  pub lower : IsLowerBound shop bounds.lower
  pub upper : (sequence : List ℕ) × IsSequence shop.jobs sequence × (span shop sequence ≡ bounds.upper)
  pub between : (least : ℕ) → IsLeastMakespan shop least → (bounds.lower ≤ least) × (least ≤ bounds.upper)

-- bounds that are proved: they hold, and where they are the same they are the least makespan
pub record AreProved (shop : Shop) (bounds : Bounds) : Type 0 where
  pub hold : AreBounds shop bounds
  pub least : bounds.lower ≡ bounds.upper → IsLeastMakespan shop bounds.lower
