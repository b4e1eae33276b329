-- What the search of a node came to.
use Rattle.std.specs.Prelude.{ℕ, ◌≡◌, ◌≤◌, ◌⊎◌, true, List, [], ◌∷◌, map}
use Rattle.flow_directions.specs.Search.{visits}
use Rattle.flow_workers.specs.declared.node.Step.{Step}
use Rattle.flow_workers.specs.declared.piece.Piece.{Piece}
use Rattle.flow_workers.specs.declared.piece.Piece.TheVariants.{Left}
use Rattle.flow_workers.specs.internal.Pieces.{Reading, IsSearched, has_reached, kept_met, pieces_met, written}

-- the pieces that stand for a node: the one that was searched, and the parts that are left behind it
abbrev pub pieces_of : {K : Type 0} → Step K → List (Piece K)
pieces_of step = step.piece ∷ map Left step.left.items

-- a node was searched until as many directions were written as a budget, or nothing of it is left to be searched; and
-- nothing is left behind a sequence that was reached
pub record IsStep {K : Type 0} (reading : Reading K) (budget : ℕ) (first last : List ℕ) (step : Step K) : Type 0 where
  pub met : pieces_met reading (pieces_of step)
      ≡ kept_met reading.mark (visits reading.shop reading.threshold first last)
  pub searched : IsSearched step.piece
  pub within : written reading.text step.piece ≤ budget
  pub goes_on : (written reading.text step.piece ≡ budget) ⊎ (step.left.items ≡ [])
  pub alone : has_reached step.piece ≡ true → step.left.items ≡ []
