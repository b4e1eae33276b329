-- Plans: an instance, a starting sequence, options, and the prefixes into which the search is divided.
use Rattle.std.specs.Prelude.{ℕ, ◌≡◌, ◌≤◌, nat_le, List, [], ◌∷◌, length, slice_index_or, Option, Some, None}
use Rattle.flow_shop.specs.Refusals.{fault_unless, first_fault}
use Rattle.flow_limits.specs.Limits.{most_prefixes}
use Rattle.flow_shop.specs.Shop.{Shop, IsWithinLimits}
use Rattle.flow_shop.specs.Paths.{span}
use Rattle.flow_shop.specs.Sequences.{IsSequence, cut}
use Rattle.flow_shop.specs.Bound.{bound_of}
use Rattle.flow_search.specs.Choices.{Choices, AreWithinLimits}
use Rattle.flow_search.specs.Search.{Solution, tree, trees, best, verdict}
use Rattle.flow_search.specs.declared.plan.PlanFault.{PlanFault}
use Rattle.flow_search.specs.declared.plan.PlanFault.TheVariants.{Depth, Prefixes, Memory}

-- a plan: an instance, a starting sequence with its makespan, and options
pub record Planned : Type 0 where
  pub shop : Shop
  pub start : Solution
  pub options : Choices

-- the prefixes of a plan, numbered from 0
abbrev pub prefixes_of : Planned → List (List ℕ)
prefixes_of plan = cut plan.shop.jobs plan.options.depth

-- the prefix of a number; the empty list where there is none
abbrev pub prefix_of : Planned → ℕ → List ℕ
prefix_of plan number = slice_index_or (prefixes_of plan) number []

-- a plan is within the limits, and starts from a sequence with its makespan
pub record IsPlan (plan : Planned) : Type 0 where
  pub shop_limits : IsWithinLimits plan.shop
  pub option_limits : AreWithinLimits plan.options
  pub is_sequence : IsSequence plan.shop.jobs plan.start.sequence
  pub is_span : plan.start.value ≡ span plan.shop plan.start.sequence
  pub deep : plan.options.depth ≤ plan.shop.jobs
  pub few : length (prefixes_of plan) ≤ most_prefixes

-- why there is no plan of an instance and options, if there is none
abbrev pub plan_fault : Shop → Choices → Option PlanFault
plan_fault shop options = first_fault (
    fault_unless (nat_le options.depth shop.jobs) Depth
    ∷ fault_unless (nat_le (length (cut shop.jobs options.depth)) most_prefixes) Prefixes
    ∷ [])

-- a fault of the instance and the options; none where memory ran out
abbrev pub but_memory : PlanFault → Option PlanFault
but_memory Memory = None
but_memory fault = Some fault

-- the tree of a prefix, by the bound of the version
abbrev pub tree_of : Planned → ℕ → List ℕ
tree_of plan number = tree plan.shop (bound_of plan.options.version) plan.start.value (prefix_of plan number)

-- the best of a prefix
abbrev pub best_of : Planned → ℕ → Option Solution
best_of plan number = best plan.shop plan.start.value (prefix_of plan number)

-- the trees of a plan, in the order of their prefixes (law: plans_agree)
abbrev pub trees_of : Planned → List (List ℕ)
trees_of plan = trees plan.shop (bound_of plan.options.version) plan.start.value plan.options.depth

-- the verdict of a plan (law: plans_agree)
abbrev pub verdict_of : Planned → Solution
verdict_of plan = verdict plan.shop plan.start plan.options.depth

-- two plans are of one instance, one starting sequence, one depth and one version
pub record AreAlike (plan other : Planned) : Type 0 where
  pub shop : plan.shop ≡ other.shop
  pub sequence : plan.start.sequence ≡ other.start.sequence
  pub depth : plan.options.depth ≡ other.options.depth
  pub version : plan.options.version ≡ other.options.version
