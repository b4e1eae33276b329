-- Where a reader of trees stands, and what the text that it reads gives.
use Rattle.std.specs.Prelude.{ℕ, zero, suc, ◌≡◌, ◌+◌, ◌<◌, false, List, [], ◌∷◌, ◌++◌, length}
use Rattle.std.specs.Prelude.{slice_index, slice_index_or, slice_set, Result}
use Rattle.flow_shop.specs.Shop.{Shop}
use Rattle.flow_shop.specs.Bound.{bound_of}
use Rattle.flow_shop.specs.Sequences.{has, jobs_left}
use Rattle.flow_check.specs.internal.ReadTrees.{read_tree, each_tree}
use Rattle.flow_check.specs.internal.Lags.{AreKept, AreUnknown}
use Rattle.flow_check.specs.internal.Nodes.{IsListNode, IsAt}
use Rattle.flow_check.specs.declared.fault.CheckFault.{CheckFault}
use Rattle.flow_check.specs.declared.node.ListNode.{ListNode}
use Rattle.flow_check.specs.declared.reader.ListFrame.{ListFrame}
use Rattle.flow_check.specs.declared.reader.TreeReader.{TreeReader}

-- the frame at a place; any frame past the end
abbrev pub frame_at : List ListFrame → ℕ → ListFrame
frame_at frames place = slice_index_or frames place
    (record { node = record { front = []; work = []; tails = record { least = []; second = [] } }; job = 0; last = 0 })

-- the node of the list at which a reader stands
abbrev pub here : TreeReader → ListNode
here reader = (frame_at reader.frames.items reader.child_left).node

-- the first frames above a place, the nearest one first
abbrev pub above : List ListFrame → ℕ → ℕ → List ListFrame
above frames place zero = []
above frames place (suc count) = frame_at frames (place + 1) ∷ above frames (place + 1) count

-- a reader stands at a list: it has the list's node, its jobs left are linked, and the lags that it keeps are theirs
pub record Stands (shop : Shop) (list : List ℕ) (reader : TreeReader) : Type 0 where
  pub at : IsAt shop list (here reader) reader.links.items (suc reader.child_left)
  pub room : length reader.frames.items ≡ shop.jobs
  pub lags : AreKept shop list reader.lags.items

-- a reader is back at its list. The node may know more tails; the frames above are as they were
pub record IsBack (shop : Shop) (old new : TreeReader) : Type 0 where
  pub child_left : new.child_left ≡ old.child_left
  pub links : new.links.items ≡ old.links.items
  pub size : length new.frames.items ≡ length old.frames.items
  pub others : (place : ℕ) → old.child_left < place → frame_at new.frames.items place ≡ frame_at old.frames.items place
  pub kept : (list : List ℕ) → Stands shop list old → Stands shop list new

-- a reader went to the child that has a job at its end; the list's frame keeps the job and the one before it
pub record Opened (shop : Shop) (last job : ℕ) (old new : TreeReader) : Type 0 where
  pub child_left : suc new.child_left ≡ old.child_left
  pub links : new.links.items ≡ slice_set old.links.items last (slice_index old.links.items job)
  pub size : length new.frames.items ≡ length old.frames.items
  pub frame : frame_at new.frames.items old.child_left ≡ record { node = here old; job = job; last = last }
  pub others : (place : ℕ) → old.child_left < place → frame_at new.frames.items place ≡ frame_at old.frames.items place
  pub child : (list : List ℕ) → IsListNode shop list (here old) (suc old.child_left) → has list job ≡ false →
      IsListNode shop (list ++ job ∷ []) (here new) (suc new.child_left)
  pub lags : AreUnknown new.lags.items

-- a reader went back to the list above, whose frame is this one
pub record Closed (frame : ListFrame) (old new : TreeReader) : Type 0 where
  pub child_left : new.child_left ≡ suc old.child_left
  pub links : new.links.items ≡ slice_set old.links.items frame.last frame.job
  pub frames : new.frames.items ≡ old.frames.items
  pub lags : AreUnknown new.lags.items

-- the text after the trees of some children of a list, with so many jobs left at each; or the first fault
abbrev pub trees_read : Shop → ℕ → ℕ → ℕ → ℕ → List ℕ → List ℕ → List ℕ → Result (List ℕ) CheckFault
trees_read shop version value line child_left list jobs bytes =
    each_tree (λ job. read_tree shop (bound_of version) value line child_left (list ++ job ∷ [])) jobs bytes

-- the text after the trees of all children of a list, with so many jobs left at each; or the first fault
abbrev pub children_read : Shop → ℕ → ℕ → ℕ → ℕ → List ℕ → List ℕ → Result (List ℕ) CheckFault
children_read shop version value line child_left list bytes = trees_read shop version value line child_left list
    (jobs_left shop.jobs list) bytes
