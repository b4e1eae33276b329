-- The tasks of a worker, and which answers fit them.
use Rattle.std.specs.Prelude.{◌≡◌, ℕ, ◌+◌, ◌<◌, ◌≤◌, cond, nat_eq, List, [], ◌∷◌, ◌++◌, length, map, All}
use Rattle.std.specs.List.{range_with_len}
use Rattle.flow_search.specs.declared.outcome.Outcome.TheVariants.{NoPrefix}
use Rattle.flow_search.specs.Plans.{Planned, prefixes_of}
use Rattle.flow_search.specs.Outcomes.{IsLawful}
use Rattle.flow_pool.specs.declared.messages.Task.{Task}
use Rattle.flow_pool.specs.declared.messages.Task.TheVariants.{Prefix, End}
use Rattle.flow_pool.specs.declared.messages.Answer.{Answer}
use Rattle.flow_pool.specs.declared.lane_ends.WorkerEnds.{WorkerEnds}
use Rattle.flow_lanes.specs.Lane.{Lane}
use Rattle.flow_pool.specs.Deal.{dealt}

-- the prefixes, of n, that one worker of k has to answer: worker, worker + k, and so on
abbrev pub share : ℕ → ℕ → ℕ → List ℕ
share k n worker = dealt k worker (range_with_len 0 n)

-- a task for each prefix
abbrev pub asking : List ℕ → List Task
asking numbers = map Prefix numbers

-- the tasks of one worker of k, where there are n prefixes: its share, and then one end
-- (law: each_prefix_is_asked_once)
abbrev pub tasks_of : ℕ → ℕ → ℕ → List Task
tasks_of k n worker = asking (share k n worker) ++ End ∷ []

-- how often the tasks ask for a prefix (law: each_prefix_is_asked_once)
abbrev pub times_asked : ℕ → List Task → ℕ
times_asked number [] = 0
times_asked number (Prefix other ∷ tasks) = cond (nat_eq other number) 1 0 + times_asked number tasks
times_asked number (End ∷ tasks) = times_asked number tasks

-- how many prefixes a plan has
abbrev pub prefix_count : Planned → ℕ
prefix_count plan = length (prefixes_of plan)

-- an answer has a lawful outcome of its prefix, or says that there is no such prefix
pub record IsLawfulAnswer (plan : Planned) (answer : Answer) : Type 0 where
  pub within : answer.number < prefix_count plan → IsLawful plan answer.number answer.outcome
  pub beyond : prefix_count plan ≤ answer.number → answer.outcome ≡ NoPrefix

-- which prefixes were answered
abbrev pub answered : List Answer → List ℕ
answered answers = map (λ answer. answer.number) answers

-- the answers fit the tasks: the tasks ask for the answered prefixes in order, and then end; each answer is lawful
pub record Fit (plan : Planned) (tasks : List Task) (answers : List Answer) : Type 0 where
  pub asked : tasks ≡ asking (answered answers) ++ End ∷ []
  pub lawful : All (IsLawfulAnswer plan) answers

-- nothing was sent or received through a worker's ends
abbrev pub IsFresh : WorkerEnds → Type 0
IsFresh ends = (ends.tasks.received ≡ []) × (ends.answers.sent ≡ [])

-- the two lanes of a worker's ends
abbrev pub worker_lanes : WorkerEnds → Lane × Lane
worker_lanes ends = (ends.tasks.lane, ends.answers.lane)
