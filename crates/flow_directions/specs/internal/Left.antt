-- What a search that is over leaves.
use Rattle.std.specs.Prelude.{ℕ, ◌≡◌, List}
use Rattle.std.specs.Global.{Vec}
use Rattle.flow_shop.specs.declared.end.End.{End}
use Rattle.flow_directions.specs.declared.found.Part.{Part}
use Rattle.flow_directions.specs.declared.found.Part.TheVariants.{Node, Children}

-- a part is the node of these lists
abbrev pub IsNodePart : List ℕ → List ℕ → Part → Type 0
IsNodePart first last part =
    (begin : Vec ℕ) × (behind : Vec ℕ) × (begin.items ≡ first) × (behind.items ≡ last) × (part ≡ Node begin behind)

-- a part is the children of the node of these lists that put these jobs at an end
abbrev pub AreChildrenPart : List ℕ → List ℕ → End → List ℕ → Part → Type 0
AreChildrenPart first last end jobs part =
    (begin : Vec ℕ) × (behind : Vec ℕ) × (named : Vec ℕ) × (begin.items ≡ first) × (behind.items ≡ last)
    × (named.items ≡ jobs) × (part ≡ Children begin behind end named)
