-- What comes of a run that may start only some of its workers.
use Rattle.std.specs.Prelude.{◌≡◌, ℕ, ◌+◌, ◌<◌, ◌≤◌, [], map, vec_len, vec_capacity}
use Rattle.std.specs.Global.{Vec}
use Rattle.flow_limits.specs.Limits.{most_prefixes}
use Rattle.flow_search.specs.Plans.{Planned}
use Rattle.flow_lanes.specs.declared.settled.Settled.{Settled}
use Rattle.flow_pool.specs.declared.messages.Task.{Task}
use Rattle.flow_pool.specs.declared.messages.Answer.{Answer}
use Rattle.flow_pool.specs.declared.run.solve.RunOutcome.{RunOutcome}
use Rattle.flow_pool.specs.declared.run.solve.RunOutcome.TheVariants.{Whole, Fault, UsedUp, Refused}
use Rattle.flow_pool.specs.declared.run.make.Made.{Made}
use Rattle.flow_pool.specs.Deal.{by_worker}
use Rattle.flow_pool.specs.Work.{prefix_count}
use Rattle.flow_pool.specs.Hub.{CanCollect}
use Rattle.flow_pool.specs.Report.{IsReport, IsSolveFault, solve_fault, run_slots}
use Rattle.flow_pool.specs.internal.HubSteps.{hub_slots}
use Rattle.flow_pool.specs.internal.Start.{CanStart}

-- a run of so many starts has a report or a fault only where they are enough, and has used them up only where they are
-- not. There are as many pairs of settled lanes as workers were started: all; as many as may be; as many as stand behind
-- the worker that the system refused to start. Whose they are stands in the code, but for those of a report
abbrev pub IsRun : Planned → ℕ → RunOutcome → Vec (Settled Task × Settled Answer) → Type 0
IsRun plan starts (Whole verdict) lanes =
    IsReport plan (record { verdict = verdict; lanes = lanes }) × (plan.options.workers ≤ starts)
IsRun plan starts (Fault fault) lanes =
    IsSolveFault plan (solve_fault fault) × ((plan.options.workers ≤ starts) × (vec_len lanes ≡ plan.options.workers))
IsRun plan starts UsedUp lanes = (starts < plan.options.workers) × (vec_len lanes ≡ starts)
IsRun plan starts (Refused refusal) lanes =
    (vec_len lanes < starts) × (vec_len lanes + refusal.worker + 1 ≡ plan.options.workers)

-- the plan has a worker, and no more prefixes than a plan may have; all lanes are new, of run_slots slots; the workers
-- and the hub can start; there is room for all outcomes and lanes
pub record IsMade (plan : Planned) (made : Made) : Type 0 where
  pub some : 0 < plan.options.workers
  pub few : prefix_count plan ≤ most_prefixes
  pub workers : vec_len made.ends ≡ plan.options.workers
  pub start : CanStart made.ends.items made.hub.hubs.items
  pub collect : CanCollect plan made.hub.hubs.items made.hub.answers
  pub slots : map hub_slots made.hub.hubs.items ≡ by_worker plan.options.workers (λ _. (run_slots, run_slots))
  pub outcomes : (made.room.items ≡ []) × (prefix_count plan ≤ vec_capacity made.room)
  pub lanes : (made.lanes.items ≡ []) × (plan.options.workers ≤ vec_capacity made.lanes)
