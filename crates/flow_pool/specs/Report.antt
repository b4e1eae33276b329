-- What the settled lanes of a run have carried, and why a run has no report.
use Rattle.std.specs.Prelude.{◌≡◌, ℕ, ◌<◌, List, None, Some, length, map, All, HoldsAt}
use Rattle.flow_search.specs.Plans.{AreAlike, Planned, IsPlan}
use Rattle.flow_search.specs.Outcomes.{IsLawful, IsDone, first_over_budget}
use Rattle.flow_search.specs.Verdicts.{IsVerdict, IsLeast}
use Rattle.flow_search.specs.declared.verdict.Verdict.{Verdict}
use Rattle.flow_search.specs.declared.verdict.RunFault.{RunFault}
use Rattle.flow_search.specs.declared.verdict.RunFault.TheVariants as run_fault
use Rattle.flow_lanes.specs.declared.settled.Settled.{Settled}
use Rattle.flow_pool.specs.declared.messages.Task.{Task}
use Rattle.flow_pool.specs.declared.messages.Answer.{Answer}
use Rattle.flow_pool.specs.declared.run.solve.Report.{Report}
use Rattle.flow_pool.specs.declared.run.solve.SolveFault.{SolveFault}
use Rattle.flow_pool.specs.declared.run.solve.SolveFault.TheVariants.{Memory, Threads, OverBudget}
use Rattle.flow_pool.specs.Work.{prefix_count, share, tasks_of, answered}

-- how many slots each lane of a run has
abbrev pub run_slots : ℕ
run_slots = 4

-- its outcome is `Done`, and lawful for its prefix
pub record IsDoneAnswer (plan : Planned) (answer : Answer) : Type 0 where
  pub lawful : IsLawful plan answer.number answer.outcome
  pub done : IsDone answer.outcome

-- on the settled lanes of a worker its tasks were sent, and an answer to each prefix, lawful and `Done`; what was sent
-- was received; each has run_slots slots
pub record IsWholeWork (plan : Planned) (worker : ℕ) (lanes : Settled Task × Settled Answer) : Type 0 where
  pub tasks : lanes.0.sent ≡ tasks_of plan.options.workers (prefix_count plan) worker
  pub numbers : answered lanes.1.sent ≡ share plan.options.workers (prefix_count plan) worker
  pub answers : All (IsDoneAnswer plan) lanes.1.sent
  pub received : (lanes.0.received ≡ lanes.0.sent) × (lanes.1.received ≡ lanes.1.sent)
  pub slots : (lanes.0.lane.capacity ≡ run_slots) × (lanes.1.lane.capacity ≡ run_slots)

-- there is one pair of settled lanes for each worker, in the order of the workers
pub record AreWholeWork (plan : Planned) (lanes : List (Settled Task × Settled Answer)) : Type 0 where
  pub count : length lanes ≡ plan.options.workers
  pub each : (worker : ℕ) → worker < plan.options.workers → HoldsAt (IsWholeWork plan worker) lanes worker

-- the report of a whole run: its lanes carried the whole work; no tree is longer than the budget; the verdict is that
-- of the plan, and has a sequence of least makespan
pub record IsReport (plan : Planned) (report : Report) : Type 0 where
  pub lanes : AreWholeWork plan report.lanes.items
  pub within : first_over_budget plan ≡ None
  pub verdict : IsVerdict plan report.verdict
  pub least : IsLeast plan.shop report.verdict

-- two verdicts have the same value, sequence and trees
pub record AreOne (verdict other : Verdict) : Type 0 where
  pub value : verdict.value ≡ other.value
  pub sequence : verdict.sequence ≡ other.sequence
  pub trees : map (λ tree. tree.items) verdict.trees.items ≡ map (λ tree. tree.items) other.trees.items

-- reports of plans that are alike have one verdict, whatever the workers and budgets (law: reports_agree)
abbrev pub ReportsAgree : Type 0
ReportsAgree =
    (plan other : Planned) (one another : Report) → IsPlan plan → IsPlan other → AreAlike plan other →
    IsReport plan one → IsReport other another → AreOne one.verdict another.verdict

-- `OverBudget` names the first prefix whose tree is longer than the budget; nothing is said of `Memory` and `Threads`
abbrev pub IsSolveFault : Planned → SolveFault → Type 0
IsSolveFault plan Memory = Unit {0}
IsSolveFault plan Threads = Unit {0}
IsSolveFault plan (OverBudget number) = first_over_budget plan ≡ Some number

-- the fault of a run, from the fault of its verdict
abbrev pub solve_fault : RunFault → SolveFault
solve_fault (run_fault.OverBudget number) = OverBudget number
solve_fault run_fault.Memory = Memory
