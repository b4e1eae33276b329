-- Directions that the search for a threshold writes, and what a proof keeps of directions.
use Rattle.std.specs.Prelude.{ℕ, ◌≡◌, Bool, true, false, List, [], length, None}
use Rattle.flow_shop.specs.Shop.{Shop}
use Rattle.flow_directions.specs.Search.{directions_of, first_below}
use Rattle.flow_certify.specs.declared.proof.Proof.{Proof}
use Rattle.flow_certify.specs.declared.proof.Proof.TheVariants.{Signs, Count}

-- from the node of two empty lists the search reaches no sequence below a threshold, and writes these directions
abbrev pub IsSearched : Shop → ℕ → List ℕ → Type 0
IsSearched shop threshold directions =
    (first_below shop threshold [] [] ≡ None) × (directions ≡ directions_of shop threshold [] [])

-- a proof is these directions, or their number
abbrev pub Keeps : Proof → List ℕ → Type 0
Keeps (Signs signs) directions = signs.items ≡ directions
Keeps (Count count) directions = count ≡ length directions

-- whether a proof has the signs of its directions
abbrev pub has_signs : Proof → Bool
has_signs (Signs signs) = true
has_signs (Count count) = false

-- how many directions a proof has
abbrev pub count_of : Proof → ℕ
count_of (Signs signs) = length signs.items
count_of (Count count) = count
