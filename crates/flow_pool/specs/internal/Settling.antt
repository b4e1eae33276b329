-- When lanes can be settled, and what a pair of settled lanes has carried.
use Rattle.std.specs.Prelude.{◌≡◌, ◌+◌, ◌<◌, Bool, true, false, List, [], ◌∷◌, ◌++◌, length}
use Rattle.flow_lanes.specs.Lane.{Lane}
use Rattle.flow_lanes.specs.declared.settled.Settled.{Settled}
use Rattle.flow_pool.specs.declared.messages.Task.{Task}
use Rattle.flow_pool.specs.declared.messages.Task.TheVariants.{Prefix, End}
use Rattle.flow_pool.specs.declared.messages.Answer.{Answer}
use Rattle.flow_pool.specs.declared.lane_ends.HubEnds.{HubEnds}
use Rattle.flow_pool.specs.declared.lane_ends.WorkerEnds.{WorkerEnds}
use Rattle.flow_pool.specs.Work.{answered, asking}

-- `End` stands once among the tasks, last
abbrev pub ends_once : List Task → Bool
ends_once [] = false
ends_once (Prefix number ∷ tasks) = ends_once tasks
ends_once (End ∷ []) = true
ends_once (End ∷ task ∷ tasks) = false

-- nothing was sent or received through the hub's ends, and they have room for a task
pub record IsReadyHub (hub : HubEnds) : Type 0 where
  pub sent : hub.tasks.sent ≡ []
  pub received : hub.answers.received ≡ []
  pub room : 0 < hub.tasks.known_free

-- the hub has sent one end, and received as many answers as it sent prefixes
pub record IsCollected (hub : HubEnds) : Type 0 where
  pub ends : ends_once hub.tasks.sent ≡ true
  pub count : length hub.tasks.sent ≡ length hub.answers.received + 1

-- the worker has sent one answer for each prefix that it received, in order, and then received an end
abbrev pub IsAnswered : WorkerEnds → Type 0
IsAnswered ends = ends.tasks.received ≡ asking (answered ends.answers.sent) ++ End ∷ []

-- the tasks that a worker received
abbrev pub worker_tasks : WorkerEnds → List Task
worker_tasks ends = ends.tasks.received

-- the answers that a worker sent
abbrev pub worker_answers : WorkerEnds → List Answer
worker_answers ends = ends.answers.sent

-- the two settled lanes of a worker
abbrev pub pair_lanes : Settled Task × Settled Answer → Lane × Lane
pair_lanes pair = (pair.0.lane, pair.1.lane)

-- the tasks that were sent on these lanes
abbrev pub pair_tasks : Settled Task × Settled Answer → List Task
pair_tasks pair = pair.0.sent

-- the answers that were sent on these lanes
abbrev pub pair_answers : Settled Task × Settled Answer → List Answer
pair_answers pair = pair.1.sent

-- what was sent on these lanes was received
abbrev pub IsReceived : Settled Task × Settled Answer → Type 0
IsReceived pair = (pair.0.received ≡ pair.0.sent) × (pair.1.received ≡ pair.1.sent)
