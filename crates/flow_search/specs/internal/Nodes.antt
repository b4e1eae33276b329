-- The state of a search at a node, and how the steps of the code change it.
use Rattle.std.specs.Prelude.{ℕ, ◌≡◌, ◌+◌, ◌-◌, ◌≤◌, Bool, true, false, not, cond, nat_lt, List, [], ◌∷◌}
use Rattle.std.specs.Prelude.{◌++◌, length, slice_set, Option, Some, None}
use Rattle.flow_limits.specs.Limits.{most_jobs}
use Rattle.flow_shop.specs.Shop.{Shop, IsWithinLimits}
use Rattle.flow_shop.specs.Front.{IsFrontOf}
use Rattle.flow_shop.specs.JobSet.{contains}
use Rattle.flow_shop.specs.Sequences.{has, jobs_left, AreJobs}
use Rattle.flow_search.specs.Search.{Solution, first_reaching}
use Rattle.flow_search.specs.internal.Walk.{Walk, Incumbent, walk, walk_each}
use Rattle.flow_shop.specs.JobSet.{IsSetOf}
use Rattle.flow_shop.specs.Bound.{Bound, plus}
use Rattle.flow_search.specs.declared.state.SearchState.{SearchState}

-- the best so far; none where no sequence with a smaller makespan than the start was found
abbrev pub found_if : SearchState → Option Solution
found_if search = cond search.improved (Some (record { value = search.value; sequence = search.best.items })) None

-- the incumbent: its makespan, and the best so far
abbrev pub incumbent_of : SearchState → Incumbent
incumbent_of search = (search.value, found_if search)

-- a node has this front, this set of jobs left, and this number of them
pub record IsAt (shop : Shop) (node : List ℕ) (front : List ℕ) (unscheduled : List Bool) (count : ℕ) : Type 0 where
  pub limits : IsWithinLimits shop
  pub whole : length node + count ≡ shop.jobs
  pub jobs : AreJobs shop.jobs node
  pub is_front : IsFrontOf shop node front
  pub left : (job : ℕ) → 1 ≤ job → job ≤ shop.jobs → contains unscheduled job ≡ not (has node job)
  pub none : IsSetOf shop unscheduled
  pub size : length unscheduled ≡ most_jobs

-- a search before its first node: all jobs are left, and no sequence was found and nothing written
pub record IsFresh (shop : Shop) (start : ℕ) (search : SearchState) : Type 0 where
  pub node : search.node.items ≡ []
  pub left : (job : ℕ) → 1 ≤ job → job ≤ shop.jobs → contains search.unscheduled job ≡ true
  pub none : IsSetOf shop search.unscheduled
  pub size : length search.unscheduled ≡ most_jobs
  pub incumbent : incumbent_of search ≡ (start, None)
  pub tree : search.tree.items ≡ []

-- the tree has one more byte, and is within the budget
pub record Wrote (budget byte : ℕ) (old new : SearchState) : Type 0 where
  pub tree : new.tree.items ≡ old.tree.items ++ byte ∷ []
  pub within : length new.tree.items ≤ budget
  pub incumbent : incumbent_of new ≡ incumbent_of old
  pub node : new.node.items ≡ old.node.items
  pub unscheduled : new.unscheduled ≡ old.unscheduled

-- the sequence of the node is the incumbent, where its makespan is smaller
pub record Saw (span : ℕ) (old new : SearchState) : Type 0 where
  pub incumbent : incumbent_of new
      ≡ cond (nat_lt span old.value) (span, Some (record { value = span; sequence = old.node.items }))
      (incumbent_of old)
  pub tree : new.tree.items ≡ old.tree.items
  pub node : new.node.items ≡ old.node.items
  pub unscheduled : new.unscheduled ≡ old.unscheduled

-- the search has gone to the child of a job
pub record Entered (job : ℕ) (old new : SearchState) : Type 0 where
  pub node : new.node.items ≡ old.node.items ++ job ∷ []
  pub unscheduled : new.unscheduled ≡ slice_set old.unscheduled (job - 1) false
  pub incumbent : incumbent_of new ≡ incumbent_of old
  pub tree : new.tree.items ≡ old.tree.items

-- the search has gone back from the child of a job
pub record Left (job : ℕ) (jobs : List ℕ) (old new : SearchState) : Type 0 where
  pub node : new.node.items ≡ jobs
  pub unscheduled : new.unscheduled ≡ slice_set old.unscheduled (job - 1) true
  pub incumbent : incumbent_of new ≡ incumbent_of old
  pub tree : new.tree.items ≡ old.tree.items

-- the walk from the node of the search, with so many jobs left
abbrev pub walked : Shop → Bound → ℕ → SearchState → Walk
walked shop bound left search = walk shop bound left search.node.items (incumbent_of search)

-- what the walks of the children of the search's node give, one after another, with so many jobs left at each
abbrev pub children_walked : Shop → Bound → ℕ → SearchState → Walk
children_walked shop bound left search =
    walk_each (λ job. walk shop bound left (search.node.items ++ job ∷ []))
    (jobs_left shop.jobs search.node.items) (incumbent_of search)

-- the walk from the child of a job, with so many jobs left there
abbrev pub child_walked : Shop → Bound → ℕ → ℕ → SearchState → Walk
child_walked shop bound left job search = walk shop bound left (search.node.items ++ job ∷ []) (incumbent_of search)

-- what a walk writes stands after the tree, within the budget, and its incumbent is there
pub record Gave (budget : ℕ) (walked : Walk) (old new : SearchState) : Type 0 where
  pub tree : new.tree.items ≡ old.tree.items ++ walked.0
  pub incumbent : incumbent_of new ≡ walked.1
  pub node : new.node.items ≡ old.node.items
  pub unscheduled : new.unscheduled ≡ old.unscheduled
  pub within : length new.tree.items ≤ budget

-- the subtree of the search's node was walked
abbrev pub Walked : Shop → Bound → ℕ → ℕ → SearchState → SearchState → Type 0
Walked shop bound budget left old new = Gave budget (walked shop bound left old) old new

-- what one walk writes and then another, which begins with the incumbent after it
abbrev pub then_walk : Walk → (Incumbent → Walk) → Walk
then_walk first more = (first.0 ++ (more first.1).0, (more first.1).1)

-- the plus of a job's child, which no bound prunes, is written
pub record Opens (shop : Shop) (bound : Bound) (budget job : ℕ) (old new : SearchState) : Type 0 where
  pub wrote : Wrote budget plus old new
  pub unpruned : first_reaching shop old.value (bound shop (old.node.items ++ job ∷ [])) ≡ None
