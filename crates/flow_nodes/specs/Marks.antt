-- Marks of places, sixteen to a word, and the names at the places that are marked.
use Rattle.std.specs.Prelude.{ℕ, suc, ◌/◌, ◌%◌, cond, nat_eq, List, [], ◌∷◌, ◌++◌, take, drop, slice_index}
use Rattle.std.specs.Int.{bit_at}

-- the mark of a place: 1 where it is marked, and else 0
abbrev pub mark : List ℕ → ℕ → ℕ
mark words place = bit_at (slice_index words (place / 16)) (place % 16)

-- of some names, one for each bit of a word from a lane on, those whose bit is 1
unfoldable pub picked : ℕ → ℕ → List ℕ → List ℕ
picked word lane [] = []
picked word lane (name ∷ names) =
    cond (nat_eq (bit_at word lane) 1) (name ∷ picked word (suc lane) names) (picked word (suc lane) names)

-- of some names, sixteen for each word, those whose place is marked
unfoldable pub chosen : List ℕ → List ℕ → List ℕ
chosen [] names = []
chosen (word ∷ words) names = picked word 0 (take 16 names) ++ chosen words (drop 16 names)
