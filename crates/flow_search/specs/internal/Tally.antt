-- The tally of the first prefixes of a plan.
use Rattle.std.specs.Prelude.{ℕ, ◌≡◌, ◌≤◌, Bool, true, false, nat_lt, map, length, take, Option, Some, None}
use Rattle.std.specs.Option.{option_map, option_to_list}
use Rattle.std.specs.List.{flat_map, AllByRecursion}
use Rattle.flow_shop.specs.Least.{first_least}
use Rattle.flow_search.specs.Search.{best}
use Rattle.flow_search.specs.Plans.{Planned, prefixes_of, trees_of}
use Rattle.flow_search.specs.Outcomes.{solution_of}
use Rattle.flow_search.specs.declared.outcome.Best.{Best}
use Rattle.flow_search.specs.declared.tally.Tally.{Tally}

-- whether the next best has a smaller makespan than the least so far; a best is smaller than none
abbrev pub undercuts : Option Best → Option Best → Bool
undercuts None least = false
undercuts (Some next) None = true
undercuts (Some next) (Some least) = nat_lt next.value least.value

-- a tally of the first prefixes: their trees, all within the budget, and the least of their bests, on ties the first
pub record IsTally (plan : Planned) (count : ℕ) (tally : Tally) : Type 0 where
  pub trees : map (λ tree. tree.items) tally.trees.items ≡ take count (trees_of plan)
  pub within : AllByRecursion (λ text. length text ≤ plan.options.budget) (take count (trees_of plan))
  pub best : option_map solution_of tally.best
      ≡ first_least (λ f. f.value)
      (flat_map (λ prefix. option_to_list (best plan.shop plan.start.value prefix)) (take count (prefixes_of plan)))
