-- What the pieces of a search stand for.
use Rattle.std.specs.Prelude.{ℕ, Bool, true, false, List, [], ◌∷◌, length, map, Some, None}
use Rattle.flow_shop.specs.Shop.{Shop}
use Rattle.flow_directions.specs.Search.{Visit, part_visits}
use Rattle.flow_parts.specs.Meanings.{Met, met, behind}
use Rattle.flow_workers.specs.declared.node.Sought.{Sought}
use Rattle.flow_workers.specs.declared.piece.Piece.{Piece}
use Rattle.flow_workers.specs.declared.piece.Piece.TheVariants.{Done, Reached, Left}
use Rattle.flow_workers.specs.declared.piece.Dealt.{Dealt}
use Rattle.flow_workers.specs.declared.piece.Dealt.TheVariants.{Open, Searched}

-- how pieces are read: the directions that are kept in them, what is kept of a sign, and the search that they are of
pub record Reading (K : Type 0) : Type 0 where
  pub text : K → List ℕ
  pub mark : ℕ → ℕ
  pub shop : Shop
  pub threshold : ℕ

-- how the pieces of what is sought are read
abbrev pub reading_of : {K : Type 0} → (K → List ℕ) → (ℕ → ℕ) → Sought → Reading K
reading_of text mark sought =
    record { text = text; mark = mark; shop = sought.instance.now; threshold = sought.threshold }

-- what is met, with what is kept of its signs
abbrev pub marked : (ℕ → ℕ) → Met → Met
marked mark found = (map mark found.0, found.1)

-- what is met in a list of visits, with what is kept of its signs
abbrev pub kept_met : (ℕ → ℕ) → List Visit → Met
kept_met mark visits = marked mark (met visits)

-- what a piece stands for
abbrev pub piece_met : {K : Type 0} → Reading K → Piece K → Met
piece_met reading (Done directions) = (reading.text directions, None)
piece_met reading (Reached sequence directions) = (reading.text directions, Some sequence)
piece_met reading (Left part) = kept_met reading.mark (part_visits reading.shop reading.threshold part)

-- what pieces stand for, one after the other
abbrev pub pieces_met : {K : Type 0} → Reading K → List (Piece K) → Met
pieces_met reading [] = ([], None)
pieces_met reading (piece ∷ pieces) = behind (piece_met reading piece) (pieces_met reading pieces)

-- what a piece that was dealt stands for
abbrev pub dealt_met : {K : Type 0} → Reading K → Dealt K → Met
dealt_met reading (Open piece) = piece_met reading piece
dealt_met reading (Searched pieces) = pieces_met reading pieces.items

-- what all pieces that were dealt stand for, one after the other
abbrev pub all_met : {K : Type 0} → Reading K → List (Dealt K) → Met
all_met reading [] = ([], None)
all_met reading (one ∷ more) = behind (dealt_met reading one) (all_met reading more)

-- how many directions a piece has, where it was searched
abbrev pub written : {K : Type 0} → (K → List ℕ) → Piece K → ℕ
written text (Done directions) = length (text directions)
written text (Reached sequence directions) = length (text directions)
written text (Left part) = 0

-- whether a piece has reached a sequence
abbrev pub has_reached : {K : Type 0} → Piece K → Bool
has_reached (Done directions) = false
has_reached (Reached sequence directions) = true
has_reached (Left part) = false

-- a piece of which nothing is still to be searched
abbrev pub IsSearched : {K : Type 0} → Piece K → Type 0
IsSearched (Done directions) = Unit {0}
IsSearched (Reached sequence directions) = Unit {0}
IsSearched (Left part) = ⊥

-- no directions of the first piece are known yet, unless it has reached a sequence
abbrev pub IsSettled : {K : Type 0} → List (Piece K) → Type 0
IsSettled [] = Unit {0}
IsSettled (Done directions ∷ pieces) = ⊥
IsSettled (Reached sequence directions ∷ pieces) = Unit {0}
IsSettled (Left part ∷ pieces) = Unit {0}
