-- Laws of the versions: a stronger bound has no longer trees, so a budget that suffices in version 1 does in version 2.
use Rattle.std.specs.Prelude.{ℕ, ◌≡◌, ◌≤◌, List, length, None}
use Rattle.flow_shop.specs.Shop.{Shop}
use Rattle.flow_shop.specs.Bound.{Bound, IsStronger}
use Rattle.flow_search.specs.Choices.{in_version}
use Rattle.flow_search.specs.Search.{tree}
use Rattle.flow_search.specs.Plans.{Planned, tree_of}
use Rattle.flow_search.specs.Outcomes.{first_over_budget}

-- the trees of a stronger bound are never longer (law: stronger_bounds_shorten_trees)
abbrev pub StrongerBoundsShortenTrees : Type 0
StrongerBoundsShortenTrees =
    (bound other : Bound) → IsStronger bound other →
    (shop : Shop) (start : ℕ) (prefix : List ℕ) →
    length (tree shop bound start prefix) ≤ length (tree shop other start prefix)

-- the same plan with a version
abbrev pub plan_in : Planned → ℕ → Planned
plan_in plan version = record { shop = plan.shop; start = plan.start; options = in_version plan.options version }

-- no tree of a plan is longer in version 2 than in version 1 (law: stronger_bounds_shorten_trees)
abbrev pub SecondVersionShortensTrees : Type 0
SecondVersionShortensTrees =
    (plan : Planned) (number : ℕ) → length (tree_of (plan_in plan 2) number) ≤ length (tree_of (plan_in plan 1) number)

-- a budget that suffices in version 1 suffices in version 2 (law: stronger_bounds_shorten_trees)
abbrev pub SecondVersionKeepsBudget : Type 0
SecondVersionKeepsBudget =
    (plan : Planned) → first_over_budget (plan_in plan 1) ≡ None → first_over_budget (plan_in plan 2) ≡ None
