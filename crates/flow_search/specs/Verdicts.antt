-- The verdict of a run, and why there is none.
use Rattle.std.specs.Prelude.{ℕ, ◌≡◌, ◌+◌, List, [], ◌∷◌, map, Option, Some, None}
use Rattle.std.specs.Option.{option_or}
use Rattle.flow_shop.specs.Shop.{Shop}
use Rattle.flow_shop.specs.Paths.{span}
use Rattle.flow_shop.specs.Sequences.{IsSequence, IsLeastMakespan}
use Rattle.flow_search.specs.Search.{best}
use Rattle.flow_search.specs.Plans.{Planned, trees_of, verdict_of}
use Rattle.flow_search.specs.declared.outcome.Outcome.{Outcome}
use Rattle.flow_search.specs.declared.outcome.Outcome.TheVariants as outcome
use Rattle.flow_search.specs.declared.verdict.Verdict.{Verdict}
use Rattle.flow_search.specs.declared.verdict.RunFault.{RunFault}
use Rattle.flow_search.specs.declared.verdict.RunFault.TheVariants.{OverBudget, Memory}

-- a verdict is that of a plan, with its trees
pub record IsVerdict (plan : Planned) (verdict : Verdict) : Type 0 where
  pub value : verdict.value ≡ (verdict_of plan).value
  pub sequence : verdict.sequence ≡ (verdict_of plan).sequence
  pub trees : map (λ tree. tree.items) verdict.trees.items ≡ trees_of plan

-- a verdict has a sequence of least makespan, with that makespan
pub record IsLeast (shop : Shop) (verdict : Verdict) : Type 0 where
  pub least : IsLeastMakespan shop verdict.value
  pub attained : span shop verdict.sequence ≡ verdict.value
  pub sequence : IsSequence shop.jobs verdict.sequence

-- the fault of the outcome of this number; none where it is done
abbrev pub refusal : ℕ → Outcome → Option RunFault
refusal number (outcome.Done best tree) = None
refusal number outcome.OverBudget = Some (OverBudget number)
refusal number outcome.NoMemory = Some Memory
refusal number outcome.NoPrefix = Some Memory

-- the fault of the first outcome that is not done, where the outcomes are numbered from this number on
abbrev pub first_refusal : ℕ → List Outcome → Option RunFault
first_refusal number [] = None
first_refusal number (first ∷ outcomes) = option_or (refusal number first) (first_refusal (number + 1) outcomes)
