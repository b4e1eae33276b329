-- What a start text gives, where there is one.
use Rattle.std.specs.Prelude.{ℕ, List, Option, Some, None, Ok, Err}
use Rattle.flow_core.specs.Shop.{Shop}
use Rattle.flow_commands.specs.Start.{GivesStart}
use Rattle.flow_commands.specs.declared.refusals.CommandFault.{CommandFault}

-- a start text gives this sequence; or there is neither
abbrev pub GivesSequence : Shop → Option (List ℕ) → Option (List ℕ) → Type 0
GivesSequence shop None None = Unit {0}
GivesSequence shop (Some text) (Some jobs) = GivesStart shop text (Ok jobs)
GivesSequence shop text jobs = ⊥

-- there is a start text, and it gives this fault
abbrev pub RefusesStart : Shop → Option (List ℕ) → CommandFault → Type 0
RefusesStart shop None fault = ⊥
RefusesStart shop (Some text) fault = GivesStart shop text (Err fault)
