-- Outcomes of the prefixes of a plan, and when they are lawful.
use Rattle.std.specs.Prelude.{ℕ, ◌≡◌, ◌<◌, ◌≤◌, nat_lt, List, length, position, slice_index_or, Option}
use Rattle.std.specs.Option.{option_map}
use Rattle.flow_search.specs.Search.{Solution}
use Rattle.flow_search.specs.Plans.{Planned, tree_of, best_of, trees_of}
use Rattle.flow_search.specs.declared.outcome.Best.{Best}
use Rattle.flow_search.specs.declared.outcome.Outcome.{Outcome}
use Rattle.flow_search.specs.declared.outcome.Outcome.TheVariants.{Done, OverBudget, NoMemory, NoPrefix}

-- a best, as the definitions speak of it: a sequence with its makespan
abbrev pub solution_of : Best → Solution
solution_of best = record { value = best.value; sequence = best.sequence }

-- When an outcome of a prefix is lawful. `Done`: it has the best and the tree of the prefix, and the tree is within the
-- budget. `OverBudget`: the tree is longer than the budget. `NoMemory` is always lawful, and `NoPrefix` never.
abbrev pub IsLawful : Planned → ℕ → Outcome → Type 0
IsLawful plan number (Done best text) =
    (option_map solution_of best ≡ best_of plan number)
    × (text.items ≡ tree_of plan number)
    × (length text.items ≤ plan.options.budget)
IsLawful plan number OverBudget = plan.options.budget < length (tree_of plan number)
IsLawful plan number NoMemory = Unit {0}
IsLawful plan number NoPrefix = ⊥

-- each outcome is lawful for the prefix whose number is its place
abbrev pub AreLawful : Planned → List Outcome → Type 0
AreLawful plan outcomes =
    (number : ℕ) (other : Outcome) → number < length outcomes →
    IsLawful plan number (slice_index_or outcomes number other)

-- the outcome is `Done`
abbrev pub IsDone : Outcome → Type 0
IsDone (Done best text) = Unit {0}
IsDone OverBudget = ⊥
IsDone NoMemory = ⊥
IsDone NoPrefix = ⊥

-- the first prefix whose tree is longer than the budget, by its number; none where each tree is within it
abbrev pub first_over_budget : Planned → Option ℕ
first_over_budget plan = position (λ text. nat_lt plan.options.budget (length text)) (trees_of plan)
