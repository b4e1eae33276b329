-- Pieces that are taken off.
use Rattle.std.specs.Prelude.{ℕ, ◌≡◌, List, [], Option, Some, None}
use Rattle.flow_directions.specs.declared.found.Part.{Part}
use Rattle.flow_directions.specs.declared.found.Part.TheVariants.{Node, Children}
use Rattle.flow_workers.specs.declared.piece.Piece.{Piece}
use Rattle.flow_parts.specs.Meanings.{Met}
use Rattle.flow_workers.specs.internal.Pieces.{Reading, piece_met}

-- a part is the node of these lists
abbrev pub IsNodeOf : List ℕ → List ℕ → Part → Type 0
IsNodeOf first last (Node begin end) = (begin.items ≡ first) × (end.items ≡ last)
IsNodeOf first last (Children begin behind end jobs) = ⊥

-- what a piece that is taken off stands for, where there is one
abbrev pub taken_met : {K : Type 0} → Reading K → Option (Piece K) → Met
taken_met reading None = ([], None)
taken_met reading (Some piece) = piece_met reading piece
