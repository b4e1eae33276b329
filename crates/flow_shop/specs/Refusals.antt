-- How contracts say which fault a call returns: several tests in order, and the first that fails names it.
use Rattle.std.specs.Prelude.{Bool, List, [], ◌∷◌, Option, Some, None, if◌then◌else◌}
use Rattle.std.specs.Option.{option_or}

-- a fault where a condition does not hold
abbrev pub fault_unless : {F : Type 0} → Bool → F → Option F
fault_unless holds fault = if holds then None else Some fault

-- the first fault that some tests found
abbrev pub first_fault : {F : Type 0} → List (Option F) → Option F
first_fault [] = None
first_fault (test ∷ tests) = option_or test (first_fault tests)
