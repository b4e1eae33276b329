-- What the reading of a second file comes to.
use Rattle.std.specs.Prelude.{◌≡◌, List, ℕ, Option, Some, None, option_map}
use Rattle.std.specs.declared.vec.Vec.{Vec}
use Rattle.flow_commands.specs.Runs.{Came, SourceRun, StopsAt}
use Rattle.flow_commands.specs.declared.refusals.CommandFault.{CommandFault}
use Rattle.flow_commands.specs.declared.files.FileKind.{FileKind}

-- the bytes of a second file, where there is one
abbrev pub bytes_of : {A : Type 0} → Option (Vec ℕ A) → Option (List ℕ)
bytes_of second = option_map (λ bytes. bytes.items) second

-- a second file of a kind came with these bytes; or there is none
abbrev pub SecondCame : {T : Type 0} → {A : Type 0} → FileKind → Option (SourceRun T) → Option (Vec ℕ A) → Type 0
SecondCame kind None None = Unit {0}
SecondCame kind (Some file) (Some given) = Came kind (λ bytes. bytes ≡ given.items) file
SecondCame kind file given = ⊥

-- there is a second file, and the run stopped at it
abbrev pub SecondStops : {T : Type 0} → FileKind → Option (SourceRun T) → CommandFault → Type 0
SecondStops kind None fault = ⊥
SecondStops kind (Some file) fault = StopsAt kind (λ _ _. ⊥) file fault
