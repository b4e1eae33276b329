-- What holds before the workers are started, and after they have ended.
use Rattle.std.specs.Prelude.{◌≡◌, ℕ, ◌+◌, ◌<◌, ◌≤◌, List, length, map, All}
use Rattle.flow_limits.specs.Limits.{most_workers}
use Rattle.flow_pool.specs.declared.lane_ends.HubEnds.{HubEnds}
use Rattle.flow_pool.specs.declared.lane_ends.WorkerEnds.{WorkerEnds}
use Rattle.flow_pool.specs.declared.threads.Started.{Started}
use Rattle.flow_pool.specs.declared.threads.Started.TheVariants.{Complete, UsedUp, Refused}
use Rattle.flow_pool.specs.Work.{IsFresh, worker_lanes, Fit}
use Rattle.flow_pool.specs.Hub.{hub_lanes}
use Rattle.flow_pool.specs.internal.Settling.{IsReadyHub, IsCollected}
use Rattle.flow_search.specs.Plans.{Planned}

-- a worker has answered all its tasks
abbrev pub IsServed : Planned → WorkerEnds → Type 0
IsServed plan ends = Fit plan ends.tasks.received ends.answers.sent

-- there are no more workers than the limit; their ends are fresh; the hub's ends of the same lanes have room for a task
pub record CanStart (workers : List WorkerEnds) (hubs : List HubEnds) : Type 0 where
  pub count : length workers ≤ most_workers
  pub fresh : All IsFresh workers
  pub ready : All IsReadyHub hubs
  pub same : map hub_lanes hubs ≡ map worker_lanes workers

-- the workers have answered, and the hub has sent each an end and received its answers; the ends are of the same lanes
pub record HasEnded (gives : WorkerEnds → Type 0) (workers : List WorkerEnds) (hubs : List HubEnds) : Type 0 where
  pub lanes : map hub_lanes hubs ≡ map worker_lanes workers
  pub served : All gives workers
  pub collected : All IsCollected hubs

-- how many of `count` workers were started, where `starts` may be: all; just `starts`, which are fewer; fewer than
-- `starts`, and as many as stand behind the worker that the system refused to start
abbrev pub HasStarted : Started → ℕ → ℕ → ℕ → Type 0
HasStarted Complete starts count started = (started ≡ count) × (count ≤ starts)
HasStarted UsedUp starts count started = (started ≡ starts) × (starts < count)
HasStarted (Refused refusal) starts count started = (started < starts) × (started + refusal.worker + 1 ≡ count)
