-- What `signs` answers, by what the check and the search find.
use Rattle.std.proofs.Common.{◌≡◌, ◌≤◌, ◌∙◌, sym, ℕ, List, [], Ok, Vec, refl, inl, inr, arith}
use Rattle.std.specs.Global.{Global}
use Rattle.std.proofs.lemmas.Bool.{cases_lt}
use Rattle.std.proofs.lemmas.Option.{none-some}
use Rattle.flow_core.specs.Shop.{Shop}
use Rattle.flow_certify.specs.Signs.{most_signs}
use Rattle.flow_check.specs.Counted.{IsCountedText}
use Rattle.flow_check.specs.Stated.{IsAbove}
use Rattle.flow_check.specs.TwoEnded.{two_ended_text}
use Rattle.flow_check.specs.declared.bounds.Bounds.{Bounds}
use Rattle.flow_check.specs.declared.kind.TextKind.TheVariants.{Counted}
use Rattle.flow_check.specs.declared.shown.Shown.{Shown}
use Rattle.flow_directions.specs.Search.{IsFound}
use Rattle.flow_directions.specs.declared.found.Found.{Found}
use Rattle.flow_directions.specs.declared.found.Found.TheVariants.{Below, Over, Proved}
use Rattle.flow_commands.specs.Signs.{AnswersSigns}
use Rattle.flow_commands.specs.internal.Found.{SignsOf}

-- a lawful text that does not state more nodes than signs are written states no more
pub few-nodes : (shop : Shop) (bytes sequence : List ℕ) (bounds : Bounds) →
    (is : IsCountedText shop bytes bounds sequence) → ¬ IsAbove Counted most_signs shop bytes → is.count ≤ most_signs
few-nodes shop bytes sequence bounds is within =
    elim (cases_lt most_signs is.count) [
      | inl more ↦ absurd (within (bounds, sequence, is, more))
      | inr no_more ↦ no_more
    ]

-- a search that a lawful text counts does not end without directions
pub proved-alone : (shop : Shop) (bytes sequence : List ℕ) (bounds : Bounds) (found : Found) →
    (is : IsCountedText shop bytes bounds sequence) → is.count ≤ most_signs →
    IsFound shop bounds.lower most_signs [] [] found → ((text : Vec ℕ Global) → ¬ (found ≡ Proved text)) → ⊥
proved-alone shop bytes sequence bounds (Proved text) is few found others = others text refl
proved-alone shop bytes sequence bounds (Below jobs makespan directions) is few found others =
    none-some jobs (sym is.shows.opens.none ∙ found.0)
proved-alone shop bytes sequence bounds Over is few found others = omega (arith, found, is.shows.opens.nodes, few)

-- the text with the directions that the search writes is answered
pub signed-answers : (shop : Shop) (bytes directions : List ℕ) (shown : Shown) → SignsOf shop bytes shown directions →
    AnswersSigns shop bytes (Ok (two_ended_text shop shown.bounds shown.sequence directions))
signed-answers shop bytes directions shown found = record {
  bounds = shown.bounds;
  jobs = shown.sequence;
  counted = found.counted;
  few = found.few;
  signs = record {
    directions = directions;
    shows = record { upper = found.counted.shows.upper; proved = found.proved };
    text = refl;
  };
  searched = found.searched;
}
