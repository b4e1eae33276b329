-- What the hub sends and receives through its ends of the lanes.
use Rattle.std.specs.Prelude.{◌≡◌, ℕ, ◌≤◌, List, [], length, map, All, vec_capacity}
use Rattle.std.specs.Global.{Vec}
use Rattle.flow_search.specs.Plans.{Planned}
use Rattle.flow_lanes.specs.Lane.{Lane}
use Rattle.flow_pool.specs.declared.messages.Task.{Task}
use Rattle.flow_pool.specs.declared.messages.Answer.{Answer}
use Rattle.flow_pool.specs.declared.lane_ends.HubEnds.{HubEnds}
use Rattle.flow_pool.specs.Deal.{dealt, by_worker}
use Rattle.flow_pool.specs.Work.{prefix_count, tasks_of}

-- nothing was sent or received through the hub's ends
abbrev pub IsFreshHub : HubEnds → Type 0
IsFreshHub hub = (hub.tasks.sent ≡ []) × (hub.answers.received ≡ [])

-- the two lanes of the hub's ends
abbrev pub hub_lanes : HubEnds → Lane × Lane
hub_lanes hub = (hub.tasks.lane, hub.answers.lane)

-- what was sent to each worker
abbrev pub sent_lists : List HubEnds → List (List Task)
sent_lists hubs = map (λ hub. hub.tasks.sent) hubs

-- what was received from each worker
abbrev pub received_lists : List HubEnds → List (List Answer)
received_lists hubs = map (λ hub. hub.answers.received) hubs

-- the answers in turn of k workers: for each worker its answers
abbrev pub all_dealt : ℕ → List Answer → List (List Answer)
all_dealt k answers = by_worker k (λ worker. dealt k worker answers)

-- the hub may collect: it has fresh ends for each worker, no answer yet, and memory for all answers
pub record CanCollect (plan : Planned) (hubs : List HubEnds) (answers : Vec Answer) : Type 0 where
  pub workers : length hubs ≡ plan.options.workers
  pub fresh : All IsFreshHub hubs
  pub empty : answers.items ≡ []
  pub room : prefix_count plan ≤ vec_capacity answers

-- the hub has collected: through the same lanes it sent each worker its tasks, and received all answers in turn
pub record HasCollected (plan : Planned) (before after : List HubEnds) (answers : List Answer) : Type 0 where
  pub lanes : map hub_lanes after ≡ map hub_lanes before
  pub sent : sent_lists after ≡ by_worker plan.options.workers (tasks_of plan.options.workers (prefix_count plan))
  pub received : received_lists after ≡ all_dealt plan.options.workers answers
  pub count : length answers ≡ prefix_count plan
