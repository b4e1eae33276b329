-- What `signs` answers.
use Rattle.std.specs.Prelude.{◌≡◌, ℕ, ◌≤◌, List, Ok, Err}
use Rattle.flow_core.specs.Shop.{Shop}
use Rattle.flow_check.specs.Counted.{IsCountedText}
use Rattle.flow_check.specs.TwoEnded.{IsTwoEnded}
use Rattle.flow_check.specs.declared.bounds.Bounds.{Bounds}
use Rattle.flow_check.specs.declared.kind.TextKind.TheVariants.{Counted}
use Rattle.flow_certify.specs.Searched.{IsSearched}
use Rattle.flow_certify.specs.Signs.{most_signs}
use Rattle.flow_commands.specs.Output.{Output}
use Rattle.flow_commands.specs.Check.{RefusesText}

-- a text is the two-ended certificate of a lawful counted one: it has the same bounds and the same sequence, and a sign
-- for each direction of the search, of which there are so many as the other states
pub record IsOfCounted (shop : Shop) (bytes text : List ℕ) : Type 0 where
  pub bounds : Bounds
  pub jobs : List ℕ
  pub counted : IsCountedText shop bytes bounds jobs
  pub few : counted.count ≤ most_signs
  pub signs : IsTwoEnded shop text bounds jobs
  pub searched : IsSearched shop bounds.lower signs.directions

-- what `signs` answers for a shop and the bytes of a counted certificate: the two-ended certificate of it; or the first
-- fault of the bytes, for a reader who allows as many nodes as a two-ended certificate may have signs
abbrev pub AnswersSigns : Shop → List ℕ → Output → Type 0
AnswersSigns shop bytes (Ok text) = IsOfCounted shop bytes text
AnswersSigns shop bytes (Err fault) = RefusesText Counted most_signs shop bytes fault
