-- Strings of directions that prove a threshold: a number below which no sequence has its makespan. A node whose bound
-- is at least the threshold is pruned. At each other node a job is put at one end, and the string says at which: a plus
-- for the front, a minus for the back.
use Rattle.std.specs.Prelude.{ℕ, zero, suc, ◌≡◌, ◌<◌, ◌≤◌, ◌⊎◌, List, [], ◌∷◌, ◌++◌, length}
use Rattle.std.specs.List.{AllZip, concat}
use Rattle.flow_shop.specs.Shop.{Shop}
use Rattle.flow_shop.specs.Paths.{span}
use Rattle.flow_shop.specs.Sequences.{jobs_left, IsSequence, IsLowerBound}
use Rattle.flow_shop.specs.Ends.{end_bound}
use Rattle.flow_shop.specs.declared.end.End.{End}
use Rattle.flow_shop.specs.declared.end.End.TheVariants.{Front, Back}

-- the byte of an end: `+` or `-`
abbrev pub sign : End → ℕ
sign Front = 43
sign Back = 45

-- the first list of a node once a job is put at an end
abbrev pub first_with : End → List ℕ → ℕ → List ℕ
first_with Front first job = first ++ job ∷ []
first_with Back first job = first

-- the last list of a node once a job is put at an end
abbrev pub last_with : End → List ℕ → ℕ → List ℕ
last_with Front last job = last
last_with Back last job = job ∷ last

-- directions prove a threshold for a node with so many jobs left in two cases: they are empty, and the node's bound is
-- at least the threshold; or the bound is below it and some job is left, and they are the sign of an end, and then, one
-- after another, directions that prove it for the node's children at that end, in increasing order of the job put there
-- (law: directions_are_sound, directions_are_one)
abbrev pub ProvesWith : Shop → ℕ → ℕ → List ℕ → List ℕ → List ℕ → Type 0
ProvesWith shop threshold zero first last text = (text ≡ []) × (threshold ≤ end_bound shop first last)
ProvesWith shop threshold (suc left) first last text =
    ((text ≡ []) × (threshold ≤ end_bound shop first last))
    ⊎ ((end : End) × (parts : List (List ℕ)) × (end_bound shop first last < threshold)
    × (text ≡ sign end ∷ concat parts)
    × AllZip (λ job part. ProvesWith shop threshold left (first_with end first job) (last_with end last job) part)
    (jobs_left shop.jobs (first ++ last)) parts)

-- directions prove a threshold for a node (law: directions_are_sound, directions_are_one)
abbrev pub ProvesFrom : Shop → ℕ → List ℕ → List ℕ → List ℕ → Type 0
ProvesFrom shop threshold first last text =
    ProvesWith shop threshold (length (jobs_left shop.jobs (first ++ last))) first last text

-- directions prove a threshold: they do so for the node of two empty lists (law: directions_are_sound,
-- directions_are_one)
abbrev pub Proves : Shop → ℕ → List ℕ → Type 0
Proves shop threshold text = ProvesFrom shop threshold [] [] text

-- no sequence of a node is below a threshold that directions prove for it (law: directions_are_sound)
abbrev pub DirectionsAreSound : Type 0
DirectionsAreSound =
    (shop : Shop) (threshold : ℕ) (first between last text : List ℕ) → ProvesFrom shop threshold first last text →
    IsSequence shop.jobs (first ++ between ++ last) → threshold ≤ span shop (first ++ between ++ last)

-- no sequence of the instance is below a threshold that directions prove (law: directions_are_sound)
abbrev pub ProvedIsLowerBound : Type 0
ProvedIsLowerBound = (shop : Shop) (threshold : ℕ) (text : List ℕ) → Proves shop threshold text →
    IsLowerBound shop threshold

-- a text begins with at most one string of directions that prove a threshold for a node: so the string needs no end
-- mark (law: directions_are_one)
abbrev pub DirectionsAreOne : Type 0
DirectionsAreOne =
    (shop : Shop) (threshold : ℕ) (first last one other rest others : List ℕ) →
    ProvesFrom shop threshold first last one → ProvesFrom shop threshold first last other →
    one ++ rest ≡ other ++ others → (one ≡ other) × (rest ≡ others)
