-- What is kept of the nodes whose children are walked, and what is still to be walked.
use Rattle.std.specs.Prelude.{ℕ, suc, ◌≡◌, ◌+◌, ◌-◌, ◌≤◌, false, not, List, [], ◌∷◌, ◌++◌, length, filter}
use Rattle.flow_shop.specs.Shop.{Shop, numbers}
use Rattle.flow_shop.specs.Front.{IsFrontOf}
use Rattle.flow_shop.specs.Sequences.{has, jobs_left, AreJobs}
use Rattle.flow_shop.specs.Bound.{Bound}
use Rattle.flow_bound.specs.Loads.{AreLoadsOf}
use Rattle.flow_search.specs.internal.Walk.{Walk, Incumbent, walk, walk_each}
use Rattle.flow_search.specs.internal.Columns.{most_columns}
use Rattle.flow_search.specs.internal.Tails.{AreSecondTails}
use Rattle.flow_search.specs.internal.Nodes.{IsAt, incumbent_of, then_walk}
use Rattle.flow_search.specs.declared.frame.Frame.{Frame}
use Rattle.flow_search.specs.declared.state.SearchState.{SearchState}

-- what a frame has of a node with so many jobs left
pub record IsFrame (shop : Shop) (node : List ℕ) (left : ℕ) (frame : Frame) : Type 0 where
  pub times : IsFrontOf shop node frame.front
  pub loads_are : AreLoadsOf shop (jobs_left shop.jobs node) frame.loads
  pub second_is : AreSecondTails shop (jobs_left shop.jobs node) frame.second
  pub count : length node + left ≡ shop.jobs
  pub some : length (jobs_left shop.jobs node) ≡ left

-- a job from 1 to n that a node does not have
pub record IsChild (n : ℕ) (node : List ℕ) (job : ℕ) : Type 0 where
  pub from : 1 ≤ job
  pub to : job ≤ n
  pub fresh : has node job ≡ false

-- the node that a stack of frames, the deepest first, leads to: from each frame's node to the child of the job before
-- its next
abbrev pub path : List ℕ → List Frame → List ℕ
path root [] = root
path root (f ∷ fs) = path root fs ++ (f.next - 1) ∷ []

-- each frame is that of its node, whose child just walked takes a job that the node leaves
abbrev pub IsStack : Shop → List ℕ → ℕ → List Frame → Type 0
IsStack shop root left [] = Unit {0}
IsStack shop root left (f ∷ fs) =
    IsFrame shop (path root fs) left f × IsChild shop.jobs (path root fs) (f.next - 1)
    × AreJobs shop.jobs (path root fs) × IsStack shop root (suc left) fs

-- the walk of a node's children from a job on that it leaves, each with so many jobs left
abbrev pub walk_from : Shop → Bound → ℕ → List ℕ → ℕ → Incumbent → Walk
walk_from shop bound left node from incumbent =
    walk_each (λ job. walk shop bound left (node ++ job ∷ []))
    (filter (λ job. not (has node job)) (numbers from shop.jobs)) incumbent

-- what is still to be walked of the nodes of a stack, with so many jobs left below the children of the deepest one
abbrev pub resume : Shop → Bound → List ℕ → ℕ → List Frame → Incumbent → Walk
resume shop bound root left [] incumbent = ([], incumbent)
resume shop bound root left (f ∷ fs) incumbent =
    then_walk (walk_from shop bound left (path root fs) f.next incumbent) (resume shop bound root (suc left) fs)

-- the walk of a root's children stands at a node below it, whose frame is `here`: what was written, with what is still
-- to be walked, is the whole
pub record IsWalking (shop : Shop) (bound : Bound) (budget : ℕ) (root : List ℕ) (whole : Walk)
    (old : SearchState) (here : Frame) (left : ℕ) (frames : List Frame) (now : SearchState) : Type 0 where
  pub at : IsAt shop now.node.items here.front now.unscheduled (suc left)
  pub node : now.node.items ≡ path root frames
  pub frame : IsFrame shop (path root frames) (suc left) here
  pub next : 1 ≤ here.next
  pub past : here.next ≤ shop.jobs + 1
  pub stack : IsStack shop root (suc (suc left)) frames
  pub text : now.tree.items ++ (resume shop bound root left (here ∷ frames) (incumbent_of now)).0 ≡ old.tree.items ++
      whole.0
  pub state : (resume shop bound root left (here ∷ frames) (incumbent_of now)).1 ≡ whole.1
  pub many : most_columns ≤ left
  pub within : length now.tree.items ≤ budget
