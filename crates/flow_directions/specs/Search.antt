-- The search for directions that prove a threshold: at which end it opens a node, and what it meets.
use Rattle.std.specs.Prelude.{ℕ, zero, suc, ◌≡◌, ◌*◌, ◌<◌, ◌≤◌, ◌↔◌, min, All, Bool, cond, ◌&&◌}
use Rattle.std.specs.Prelude.{nat_lt, nat_le, List, [], ◌∷◌, ◌++◌, length, sum_by, Option, Some, None}
use Rattle.std.specs.List.{flat_map}
use Rattle.flow_shop.specs.Shop.{Shop}
use Rattle.flow_shop.specs.Paths.{span}
use Rattle.flow_shop.specs.Sequences.{jobs_left, AreJobs, IsSequence}
use Rattle.flow_shop.specs.Ends.{end_bound}
use Rattle.flow_shop.specs.Directions.{sign, first_with, last_with, ProvesFrom}
use Rattle.flow_shop.specs.declared.end.End.{End}
use Rattle.flow_shop.specs.declared.end.End.TheVariants.{Front, Back}
use Rattle.flow_nodes.specs.Groups.{child_bound}
use Rattle.flow_nodes.specs.PlainEnd.{plain_end_by}
use Rattle.flow_nodes.specs.Packs.{left_below}
use Rattle.flow_directions.specs.declared.found.Found.{Found}
use Rattle.flow_directions.specs.declared.found.Found.TheVariants.{Proved, Below, Over}
use Rattle.flow_directions.specs.declared.found.Advanced.{Advanced}
use Rattle.flow_directions.specs.declared.found.Advanced.TheVariants as advanced
use Rattle.flow_directions.specs.declared.found.Counted.{Counted}
use Rattle.flow_directions.specs.declared.found.Counted.TheVariants as counted
use Rattle.flow_directions.specs.declared.found.Tallied.{Tallied}
use Rattle.flow_directions.specs.declared.found.Tallied.TheVariants as tallied
use Rattle.flow_directions.specs.declared.found.Part.{Part}
use Rattle.flow_directions.specs.declared.found.Part.TheVariants.{Node, Children}

-- how many children of a node at an end are below a threshold
abbrev pub count_below : Shop → ℕ → End → List ℕ → List ℕ → ℕ
count_below shop threshold end first last = length (left_below shop threshold end first last)

-- the sum of the bounds of all children of a node at an end
abbrev pub bound_sum : Shop → End → List ℕ → List ℕ → ℕ
bound_sum shop end first last = sum_by (child_bound shop end first last) (jobs_left shop.jobs (first ++ last))

-- the end that the plain rule takes
abbrev pub plain_end : Shop → ℕ → List ℕ → List ℕ → End
plain_end shop threshold first last =
    plain_end_by (count_below shop threshold Front first last) (count_below shop threshold Back first last)
    (bound_sum shop Front first last) (bound_sum shop Back first last)

-- the end that is not this one
abbrev pub other : End → End
other Front = Back
other Back = Front

-- the end that the plain rule does not take
abbrev pub other_end : Shop → ℕ → List ℕ → List ℕ → End
other_end shop threshold first last = other (plain_end shop threshold first last)

-- how many children of a node are below the threshold at the end where they are fewer
abbrev pub fewest_below : Shop → ℕ → List ℕ → List ℕ → ℕ
fewest_below shop threshold first last =
    min (count_below shop threshold Front first last) (count_below shop threshold Back first last)

-- the weight of an end: the sum of these counts, of each child there that is below the threshold
unfoldable pub weight : Shop → ℕ → End → List ℕ → List ℕ → ℕ
weight shop threshold end first last =
    sum_by (λ job. fewest_below shop threshold (first_with end first job) (last_with end last job))
    (left_below shop threshold end first last)

-- whether the search looks ahead at a node: at the plain rule's end at least 2 children are below the threshold, at the
-- other end at most one and a half times as many, and at least 3 jobs are left
abbrev pub looks_ahead : Shop → ℕ → List ℕ → List ℕ → Bool
looks_ahead shop threshold first last =
    nat_le 2 (count_below shop threshold (plain_end shop threshold first last) first last)
    && nat_le (2 * count_below shop threshold (other_end shop threshold first last) first last)
    (3 * count_below shop threshold (plain_end shop threshold first last) first last)
    && nat_le 3 (length (jobs_left shop.jobs (first ++ last)))

-- the end at which a node is opened: that of the plain rule; or the other one, where the search looks ahead and finds
-- that the other one has the smaller weight
unfoldable pub end_taken : Shop → ℕ → List ℕ → List ℕ → End
end_taken shop threshold first last =
    cond (looks_ahead shop threshold first last
    && nat_lt (weight shop threshold (other_end shop threshold first last) first last)
    (weight shop threshold (plain_end shop threshold first last) first last))
    (other_end shop threshold first last) (plain_end shop threshold first last)

-- what the search meets: a node that it opens, at an end; or a sequence below the threshold
pub data Visit : Type 0 where
  opens : End → Visit
  reaches : List ℕ → Visit

-- what the search meets at a node with so many jobs left, in order: nothing where the node's bound is at least the
-- number; else its sequence where no job is left; or else the node, and what it meets at the children at the end that
-- is taken, in increasing order of the job put there
unfoldable pub visits_with : Shop → ℕ → ℕ → List ℕ → List ℕ → List Visit
visits_with shop threshold zero first last =
    cond (nat_le threshold (end_bound shop first last)) [] (reaches (first ++ last) ∷ [])
visits_with shop threshold (suc left) first last =
    cond (nat_le threshold (end_bound shop first last)) []
    (opens (end_taken shop threshold first last) ∷ flat_map
    (λ job. visits_with shop threshold left (first_with (end_taken shop threshold first last) first job)
    (last_with (end_taken shop threshold first last) last job))
    (jobs_left shop.jobs (first ++ last)))

-- what the search meets at a node
abbrev pub visits : Shop → ℕ → List ℕ → List ℕ → List Visit
visits shop threshold first last =
    visits_with shop threshold (length (jobs_left shop.jobs (first ++ last))) first last

-- what the search meets at the child of a node that puts a job at an end
abbrev pub child_visits : Shop → ℕ → End → List ℕ → List ℕ → ℕ → List Visit
child_visits shop threshold end first last job = visits shop threshold (first_with end first job)
    (last_with end last job)

-- what the search meets at a part: at its node, or at these children of its node, one after the other
abbrev pub part_visits : Shop → ℕ → Part → List Visit
part_visits shop threshold (Node first last) = visits shop threshold first.items last.items
part_visits shop threshold (Children first last end jobs) =
    flat_map (child_visits shop threshold end first.items last.items) jobs.items

-- what it meets at some parts, one after the other
abbrev pub parts_visits : Shop → ℕ → List Part → List Visit
parts_visits shop threshold parts = flat_map (part_visits shop threshold) parts

-- a part of an instance: its lists have distinct jobs; its children put distinct jobs, and none that its lists have
abbrev pub IsPart : Shop → Part → Type 0
IsPart shop (Node first last) = AreJobs shop.jobs (first.items ++ last.items)
IsPart shop (Children first last end jobs) =
    AreJobs shop.jobs (first.items ++ last.items) × AreJobs shop.jobs jobs.items
    × All (λ job. AreJobs shop.jobs (first_with end first.items job ++ last_with end last.items job)) jobs.items

-- the signs of the nodes that are opened before a sequence is reached (law: directions_prove, directions_by_children)
abbrev pub signs : List Visit → List ℕ
signs [] = []
signs (opens end ∷ more) = sign end ∷ signs more
signs (reaches jobs ∷ more) = []

-- the first sequence that is reached (law: search_reaches_what_is_below)
abbrev pub first_reached : List Visit → Option (List ℕ)
first_reached [] = None
first_reached (opens end ∷ more) = first_reached more
first_reached (reaches jobs ∷ more) = Some jobs

-- what is met has these signs first; then come the signs, and the first sequence reached, of what is met further on
abbrev pub Continues : List Visit → List ℕ → List Visit → Type 0
Continues met text more = (signs met ≡ text ++ signs more) × (first_reached met ≡ first_reached more)

-- the directions that the search writes for a node: all, or those before the first sequence below the threshold
-- (law: directions_prove, directions_by_children)
abbrev pub directions_of : Shop → ℕ → List ℕ → List ℕ → List ℕ
directions_of shop threshold first last = signs (visits shop threshold first last)

-- the first sequence of a node, in the order of the search, that is below the threshold
-- (law: search_reaches_what_is_below)
abbrev pub first_below : Shop → ℕ → List ℕ → List ℕ → Option (List ℕ)
first_below shop threshold first last = first_reached (visits shop threshold first last)

-- a sequence of a node: it begins with the first list, and ends with the last one
abbrev pub IsOfNode : Shop → List ℕ → List ℕ → List ℕ → Type 0
IsOfNode shop first last jobs =
    (between : List ℕ) × (jobs ≡ first ++ between ++ last) × IsSequence shop.jobs jobs

-- where the search reaches no sequence below a threshold, its directions prove the threshold for the node
-- (law: directions_prove)
abbrev pub DirectionsProve : Type 0
DirectionsProve =
    (shop : Shop) (threshold : ℕ) (first last : List ℕ) → AreJobs shop.jobs (first ++ last) →
    first_below shop threshold first last ≡ None →
    ProvesFrom shop threshold first last (directions_of shop threshold first last)

-- what it reaches is a sequence of the node, and below the threshold (law: search_reaches_what_is_below)
abbrev pub ReachedIsBelow : Type 0
ReachedIsBelow =
    (shop : Shop) (threshold : ℕ) (first last jobs : List ℕ) → AreJobs shop.jobs (first ++ last) →
    first_below shop threshold first last ≡ Some jobs → IsOfNode shop first last jobs × (span shop jobs < threshold)

-- it reaches none exactly where no sequence of the node is below the threshold (law: search_reaches_what_is_below)
abbrev pub ReachesNoneBelow : Type 0
ReachesNoneBelow =
    (shop : Shop) (threshold : ℕ) (first last : List ℕ) → AreJobs shop.jobs (first ++ last) →
    (first_below shop threshold first last ≡ None)
    ↔ ((jobs : List ℕ) → IsOfNode shop first last jobs → threshold ≤ span shop jobs)

-- where it reaches none, the directions of a node are nothing where its bound is at least the threshold, and else the
-- sign of the end that is taken and the directions of the children there, in order (law: directions_by_children)
abbrev pub DirectionsByChildren : Type 0
DirectionsByChildren =
    (shop : Shop) (threshold : ℕ) (first last : List ℕ) → AreJobs shop.jobs (first ++ last) →
    first_below shop threshold first last ≡ None →
    directions_of shop threshold first last
    ≡ cond (nat_le threshold (end_bound shop first last)) []
    (sign (end_taken shop threshold first last) ∷ flat_map
    (λ job. directions_of shop threshold (first_with (end_taken shop threshold first last) first job)
    (last_with (end_taken shop threshold first last) last job))
    (jobs_left shop.jobs (first ++ last)))

-- What a search for a number found, with a budget of directions. `Proved`: it reaches no sequence below the threshold,
-- and these are the node's directions. `Below`: this is the first sequence that it reaches, with its makespan, and with
-- how many directions come before it. In both cases there are as many directions as the budget or fewer. `Over`: there
-- are more.
abbrev pub IsFound : Shop → ℕ → ℕ → List ℕ → List ℕ → Found → Type 0
IsFound shop threshold budget first last (Proved text) =
    (first_below shop threshold first last ≡ None) × (text.items ≡ directions_of shop threshold first last)
    × (length text.items ≤ budget)
IsFound shop threshold budget first last (Below sequence makespan directions) =
    (first_below shop threshold first last ≡ Some sequence) × (makespan ≡ span shop sequence)
    × (directions ≡ length (directions_of shop threshold first last)) × (directions ≤ budget)
IsFound shop threshold budget first last Over = budget < length (directions_of shop threshold first last)

-- a search of a node is over its budget: these are its first directions, as many as the budget, and it goes on with
-- these parts, one after the other, of which there are no more than jobs left at the node
abbrev pub IsRest : Shop → ℕ → ℕ → List ℕ → List ℕ → List ℕ → List Part → Type 0
IsRest shop threshold budget first last text parts =
    IsFound shop threshold budget first last Over × (length text ≡ budget)
    × Continues (visits shop threshold first last) text (parts_visits shop threshold parts)
    × All (IsPart shop) parts × (length parts ≤ length (jobs_left shop.jobs (first ++ last)))

-- what a search of a node came to, with a budget of directions: what it found, with the directions that it wrote
abbrev pub IsAdvanced : Shop → ℕ → ℕ → List ℕ → List ℕ → Advanced → Type 0
IsAdvanced shop threshold budget first last (advanced.Proved text) = IsFound shop threshold budget first last
    (Proved text)
IsAdvanced shop threshold budget first last (advanced.Below sequence makespan directions) =
    IsFound shop threshold budget first last (Below sequence makespan (length directions.items))
    × (directions.items ≡ directions_of shop threshold first last)
IsAdvanced shop threshold budget first last (advanced.Rest text parts) =
    IsRest shop threshold budget first last text.items parts.items

-- What a search for a number found that counts its directions, with a budget of them. `Proved`: it reaches no sequence
-- below the threshold, and the node has so many directions, as many as the budget or fewer. `Below` and `Over`: as
-- what is found.
abbrev pub IsCounted : Shop → ℕ → ℕ → List ℕ → List ℕ → Counted → Type 0
IsCounted shop threshold budget first last (counted.Proved count) =
    (first_below shop threshold first last ≡ None) × (count ≡ length (directions_of shop threshold first last))
    × (count ≤ budget)
IsCounted shop threshold budget first last (counted.Below sequence makespan directions) =
    IsFound shop threshold budget first last (Below sequence makespan directions)
IsCounted shop threshold budget first last counted.Over = IsFound shop threshold budget first last Over

-- what a search of a node came to that counts its directions, with a budget of them
abbrev pub IsTallied : Shop → ℕ → ℕ → List ℕ → List ℕ → Tallied → Type 0
IsTallied shop threshold budget first last (tallied.Proved count) =
    IsCounted shop threshold budget first last (counted.Proved count)
IsTallied shop threshold budget first last (tallied.Below sequence makespan directions) =
    IsCounted shop threshold budget first last (counted.Below sequence makespan directions)
IsTallied shop threshold budget first last (tallied.Rest parts) =
    (text : List ℕ) × IsRest shop threshold budget first last text parts.items

-- what this shows: the directions prove the threshold for the node; or a sequence of the node is below the threshold
abbrev pub Shows : Shop → ℕ → List ℕ → List ℕ → Found → Type 0
Shows shop threshold first last (Proved text) = ProvesFrom shop threshold first last text.items
Shows shop threshold first last (Below sequence makespan directions) =
    IsOfNode shop first last sequence × (span shop sequence ≡ makespan) × (makespan < threshold)
Shows shop threshold first last Over = Unit {0}
