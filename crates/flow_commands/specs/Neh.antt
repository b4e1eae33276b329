-- What `neh` answers.
use Rattle.std.specs.Prelude.{◌≡◌, ℕ, List, Ok}
use Rattle.flow_core.specs.Shop.{Shop}
use Rattle.flow_bound.specs.Neh.{IsNeh}
use Rattle.flow_commands.specs.Output.{Output}
use Rattle.flow_commands.specs.Printed.{sequence_lines}

-- what `neh` answers for a shop: the starting sequence of Nawaz, Enscore and Ham, and its makespan
abbrev pub AnswersNeh : Shop → Output → Type 0
AnswersNeh shop answer = (start : List ℕ) × IsNeh shop start × (answer ≡ Ok (sequence_lines shop start))
