-- The makespan of a list with a job between two others: from the front of the jobs up to it, and the tails behind it.
use Rattle.std.specs.Prelude.{ℕ, ◌≡◌, ◌+◌, List, [], ◌∷◌, ◌++◌, map}
use Rattle.flow_shop.specs.Shop.{Shop, numbers}
use Rattle.flow_shop.specs.Least.{greatest}
use Rattle.flow_shop.specs.Paths.{completion, span}
use Rattle.flow_shop.specs.Ends.{path_tail}

-- for each job of a list: the makespan of the list is the greatest sum, over the machines, of the job's completion time
-- and the path tail, from that machine, of the jobs behind it (law: span_is_of_fronts_and_tails)
abbrev pub SpanIsOfFrontsAndTails : Type 0
SpanIsOfFrontsAndTails =
    (shop : Shop) (before behind : List ℕ) (job : ℕ) →
    span shop (before ++ job ∷ behind)
    ≡ greatest
    (map (λ machine. completion shop (before ++ job ∷ []) machine + path_tail shop behind machine) (numbers 1 shop.machines))
