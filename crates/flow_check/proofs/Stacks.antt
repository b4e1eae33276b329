-- A reader of trees, part way: what is still to be read of a list, and of the lists above it.
use Rattle.std.proofs.Common.{ℕ, suc, ◌≡◌, ◌+◌, ◌-◌, ◌≤◌, false, List, [], ◌∷◌, ◌++◌, drop, slice_set, Result, Ok}
use Rattle.std.specs.List.{flat_map}
use Rattle.flow_shop.specs.Shop.{Shop}
use Rattle.flow_shop.specs.Sequences.{has, extensions}
use Rattle.flow_shop.proofs.Taken.{left_from}
use Rattle.flow_check.specs.internal.ReadTrees.{then_read}
use Rattle.flow_check.specs.internal.Links.{IsPlace}
use Rattle.flow_check.specs.internal.Nodes.{IsAt}
use Rattle.flow_check.specs.internal.Reader.{trees_read}
use Rattle.flow_check.specs.declared.fault.CheckFault.{CheckFault}
use Rattle.flow_check.specs.declared.node.ListNode.{ListNode}
use Rattle.flow_check.specs.declared.reader.ListFrame.{ListFrame}

-- the list that a stack of children, the deepest first, leads to
abbrev pub path : List ℕ → List ListFrame → List ℕ
path root [] = root
path root (f ∷ fs) = path root fs ++ f.job ∷ []

-- the links, with the jobs of a stack put back
abbrev pub put_back : List ℕ → List ListFrame → List ℕ
put_back links [] = links
put_back links (f ∷ fs) = put_back (slice_set links f.last f.job) fs

-- what is still to be read once the tree of a stack's list is whole
abbrev pub resume : Shop → ℕ → ℕ → ℕ → List ℕ → ℕ → List ListFrame → List ℕ → Result (List ℕ) CheckFault
resume shop version value line root left [] bytes = Ok bytes
resume shop version value line root left (f ∷ fs) bytes =
    then_read (trees_read shop version value line left (path root fs) (left_from shop.jobs (path root fs) (f.job + 1))
    bytes)
    (resume shop version value line root (suc left) fs)

-- each frame's list is reached, once its job and those above are put back, and does not have the job
abbrev pub IsStack : Shop → List ℕ → List ℕ → ℕ → List ListFrame → Type 0
IsStack shop root links left [] = Unit {0}
IsStack shop root links left (f ∷ fs) =
    IsAt shop (path root fs) f.node (slice_set links f.last f.job) left
    × (1 ≤ f.job) × (f.job ≤ shop.jobs) × (has (path root fs) f.job ≡ false) × (f.last ≤ shop.jobs)
    × IsStack shop root (slice_set links f.last f.job) (suc left) fs

-- the children of a list are being read, from the one after a job on
pub record IsReading
    (shop : Shop) (version value line : ℕ) (root : List ℕ) (whole : Result (List ℕ) CheckFault)
    (node : ListNode) (links : List ℕ) (child_left last at : ℕ) (bytes : List ℕ)
    (frames : List ListFrame) : Type 0 where
  pub here : IsAt shop (path root frames) node links (suc child_left)
  pub after_last : IsPlace shop.jobs (path root frames) last
  pub stack : IsStack shop root links (suc (suc child_left)) frames
  pub answer : whole ≡ then_read
      (trees_read shop version value line child_left (path root frames) (left_from shop.jobs (path root frames)
      (last + 1)) (drop at bytes))
      (resume shop version value line root (suc child_left) frames)

-- the prefixes that are still to be read below a list, from one child on
abbrev pub awaited : ℕ → ℕ → List ℕ → ℕ → List (List ℕ)
awaited n more list from = flat_map (λ j. extensions n (more - 1) (list ++ j ∷ [])) (left_from n list from)
