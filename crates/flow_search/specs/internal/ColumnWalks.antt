-- The walk of the children of a node with at most eight jobs left, column by column.
use Rattle.std.specs.Prelude.{ℕ, suc, ◌≡◌, ◌+◌, ◌-◌, ◌≤◌, List, [], ◌∷◌, ◌++◌, slice_index, slice_index_or}
use Rattle.std.specs.Prelude.{length, drop}
use Rattle.flow_shop.specs.Shop.{Shop}
use Rattle.flow_shop.specs.Bound.{Bound}
use Rattle.flow_search.specs.internal.Walk.{Walk, Incumbent, walk, walk_each}
use Rattle.flow_search.specs.internal.Nodes.{incumbent_of, then_walk}
use Rattle.flow_search.specs.internal.Columns.{IsTested, child, columns_of}
use Rattle.flow_search.specs.declared.state.SearchState.{SearchState}
use Rattle.flow_search.specs.declared.few_left.group.Group.{Group}
use Rattle.flow_search.specs.declared.few_left.group.ColumnFrame.{ColumnFrame}

-- the walk of a column's child, with so many jobs left there
abbrev pub column_walked : Shop → Bound → ℕ → Group → ℕ → SearchState → Walk
column_walked shop bound left group column search =
    walk shop bound left (child search.node.items group column) (incumbent_of search)

-- the walks of the children in some columns, one after another, each with so many jobs left
abbrev pub columns_walked : Shop → Bound → ℕ → List ℕ → Group → List ℕ → Incumbent → Walk
columns_walked shop bound left list group columns incumbent =
    walk_each (λ column. walk shop bound left (child list group column)) columns incumbent

-- the node that a stack of frames, the deepest first, leads to: from each frame's node to the child in the column
-- before its next
abbrev pub column_path : List ℕ → Group → List ColumnFrame → List ℕ
column_path root group [] = root
column_path root group (f ∷ fs) = child (column_path root group fs) group (slice_index f.columns (f.next - 1))

-- each frame is that of its node, with the children tested
abbrev pub AreTested : Shop → Bound → List ℕ → Group → List ColumnFrame → Type 0
AreTested shop bound root group [] = Unit {0}
AreTested shop bound root group (f ∷ fs) = IsTested shop bound (column_path root group fs) group f × AreTested shop
    bound root group fs

-- what is still to be walked of the nodes of a stack, with so many jobs left below the children of the deepest one
abbrev pub columns_left : Shop → Bound → List ℕ → Group → ℕ → List ColumnFrame → Incumbent → Walk
columns_left shop bound root group left [] incumbent = ([], incumbent)
columns_left shop bound root group left (f ∷ fs) incumbent =
    then_walk (columns_walked shop bound left (column_path root group fs) group (drop f.next (columns_of f)) incumbent)
    (columns_left shop bound root group (suc left) fs)

-- the walk of a root's children stands at a node below it, whose frame is `here`: what was written, with what is still
-- to be walked, is the whole
pub record IsInColumns (shop : Shop) (bound : Bound) (budget : ℕ) (group : Group) (root : List ℕ)
    (whole : Walk)
    (old : SearchState) (here : ColumnFrame) (left : ℕ) (frames : List ColumnFrame) (now : SearchState) : Type 0 where
  pub node : now.node.items ≡ column_path root group frames
  pub count : length (column_path root group frames) + suc left ≡ shop.jobs
  pub tested : AreTested shop bound root group (here ∷ frames)
  pub text : now.tree.items ++ (columns_left shop bound root group left (here ∷ frames) (incumbent_of now)).0
      ≡ old.tree.items ++ whole.0
  pub state : (columns_left shop bound root group left (here ∷ frames) (incumbent_of now)).1 ≡ whole.1
  pub unscheduled : now.unscheduled ≡ old.unscheduled
  pub within : length now.tree.items ≤ budget

-- the frame of a depth; an empty one where there is none
abbrev pub frame_at : List ColumnFrame → ℕ → ColumnFrame
frame_at frames depth =
    slice_index_or frames depth
    (record { free = []; front = []; sum = []; gone = []; unpruned = []; value = 0; columns = []; next = 0 })
