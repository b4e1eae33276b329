-- What the hub has sent and received so far.
use Rattle.std.specs.Prelude.{ℕ, ◌≡◌, ◌≤◌, Bool, true, false, List, [], ◌∷◌, ◌++◌, length, map, slice_set}
use Rattle.std.specs.Prelude.{slice_index_or, vec_len, vec_capacity}
use Rattle.std.specs.List.{list_any}
use Rattle.std.specs.Global.{Vec}
use Rattle.flow_search.specs.declared.outcome.Outcome.{Outcome}
use Rattle.flow_search.specs.declared.outcome.Outcome.TheVariants.{Done, OverBudget, NoMemory, NoPrefix}
use Rattle.flow_search.specs.Plans.{Planned}
use Rattle.flow_pool.specs.declared.messages.Task.{Task}
use Rattle.flow_pool.specs.declared.messages.Answer.{Answer}
use Rattle.flow_pool.specs.declared.lane_ends.HubEnds.{HubEnds}
use Rattle.flow_pool.specs.Deal.{by_worker}
use Rattle.flow_pool.specs.Work.{share, asking, tasks_of, prefix_count}
use Rattle.flow_pool.specs.Hub.{hub_lanes, sent_lists, received_lists, all_dealt}

-- the tasks of a worker among the first n prefixes
abbrev pub asked : ℕ → ℕ → ℕ → List Task
asked k n worker = asking (share k n worker)

-- some lists with x at the end of one of them
abbrev pub pushed_at : {X : Type 0} → ℕ → X → List (List X) → List (List X)
pushed_at worker x lists = slice_set lists worker (slice_index_or lists worker [] ++ x ∷ [])

-- how many slots the two lanes have
abbrev pub hub_slots : HubEnds → ℕ × ℕ
hub_slots hub = (hub.tasks.lane.capacity, hub.answers.lane.capacity)

-- the hub has received answers in turn, no more than a limit, and has memory for as many as the limit
pub record HasTaken (hubs : List HubEnds) (answers : Vec Answer) (limit : ℕ) : Type 0 where
  pub dealt : received_lists hubs ≡ all_dealt (length hubs) answers.items
  pub few : vec_len answers ≤ limit
  pub room : limit ≤ vec_capacity answers

-- whether a tree was longer than the budget
abbrev pub is_over_budget : Outcome → Bool
is_over_budget (Done best tree) = false
is_over_budget OverBudget = true
is_over_budget NoMemory = false
is_over_budget NoPrefix = false

-- whether one of the answers says so
abbrev pub any_over_budget : List Answer → Bool
any_over_budget answers = list_any (λ answer. is_over_budget answer.outcome) answers

-- the hub has sent k workers as many prefixes as it has answers, and one end each; and has received an answer to each
-- of these prefixes, in turn
pub record HasDealt (k : ℕ) (before after : List HubEnds) (answers : List Answer) : Type 0 where
  pub lanes : map hub_lanes after ≡ map hub_lanes before
  pub sent : sent_lists after ≡ by_worker k (tasks_of k (length answers))
  pub received : received_lists after ≡ all_dealt k answers

-- the hub of a run has done its work: it has an answer to each prefix, unless one of its answers is over the budget
pub record HasDirected (plan : Planned) (before after : List HubEnds) (answers : List Answer) : Type 0 where
  pub dealt : HasDealt plan.options.workers before after answers
  pub few : length answers ≤ prefix_count plan
  pub whole : any_over_budget answers ≡ false → length answers ≡ prefix_count plan
