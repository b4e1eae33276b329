-- The walk of a search through a subtree. It keeps one incumbent, and visits no sequence below a pruned node.
use Rattle.std.specs.Prelude.{ℕ, zero, suc, ◌≡◌, ◌-◌, ◌≤◌, cond, nat_lt, List, [], ◌∷◌, ◌++◌, length}
use Rattle.std.specs.Prelude.{Option, Some, None}
use Rattle.std.specs.Option.{option_map_or}
use Rattle.flow_shop.specs.Shop.{Shop}
use Rattle.flow_shop.specs.Paths.{span}
use Rattle.flow_shop.specs.Sequences.{jobs_left, AreJobs}
use Rattle.flow_shop.specs.Bound.{Bound, IsAdmissible, letter, point, plus}
use Rattle.flow_search.specs.Search.{Solution, solution, first_reaching, tree, best}

-- an incumbent: a makespan, with the sequence that has it; or the makespan of the start alone
abbrev pub Incumbent : Type 0
Incumbent = ℕ × Option Solution

-- what a walk gives: the text that it writes, and the incumbent after it
abbrev pub Walk : Type 0
Walk = List ℕ × Incumbent

-- the incumbent after a sequence: that sequence, where its makespan is smaller
abbrev pub better : Shop → Incumbent → List ℕ → Incumbent
better shop incumbent jobs =
    cond (nat_lt (span shop jobs) incumbent.0) (span shop jobs, Some (solution shop jobs)) incumbent

-- the walks from the children of some jobs, one after another: all their texts, and the incumbent after the last
abbrev pub walk_each : (ℕ → Incumbent → Walk) → List ℕ → Incumbent → Walk
walk_each walk [] incumbent = ([], incumbent)
walk_each walk (job ∷ jobs) incumbent =
    let first = walk job incumbent in
    let rest = walk_each walk jobs first.1 in
    (first.0 ++ rest.0, rest.1)

-- the walk from a node with so many jobs left
abbrev pub walk : Shop → Bound → ℕ → List ℕ → Incumbent → Walk
walk shop bound zero node incumbent = (point ∷ [], better shop incumbent node)
walk shop bound (suc left) node incumbent =
    let below = walk_each (λ job. walk shop bound left (node ++ job ∷ [])) (jobs_left shop.jobs node) incumbent in
    option_map_or (λ machine. (letter machine ∷ [], incumbent))
    (first_reaching shop incumbent.0 (bound shop node))
    (plus ∷ below.0, below.1)

-- where the bound is admissible, the walk from a prefix writes its tree and finds its best
abbrev pub WalkIsTree : Type 0
WalkIsTree =
    (shop : Shop) (bound : Bound) (start : ℕ) (prefix : List ℕ) →
    IsAdmissible bound → AreJobs shop.jobs prefix → length prefix ≤ shop.jobs →
    ((walk shop bound (shop.jobs - length prefix) prefix (start, None)).0 ≡ tree shop bound start prefix)
    × ((walk shop bound (shop.jobs - length prefix) prefix (start, None)).1.1 ≡ best shop start prefix)
