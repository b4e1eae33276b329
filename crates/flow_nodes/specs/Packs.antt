-- Packs: jobs side by side, sixteen to a group, with their names.
use Rattle.std.specs.Prelude.{ℕ, ◌≡◌, ◌*◌, ◌<◌, ◌≤◌, List, ◌++◌, length, filter, nat_lt, take, drop, slice_index}
use Rattle.std.specs.Prelude.{slice_index_or}
use Rattle.std.specs.Global.{Vec}
use Rattle.flow_shop.specs.Shop.{Shop}
use Rattle.flow_shop.specs.declared.end.End.{End}
use Rattle.flow_shop.specs.Sequences.{jobs_left}
use Rattle.flow_shop.specs.Rows.{AreRows}
use Rattle.flow_nodes.specs.Nodes.{IsJob}
use Rattle.flow_nodes.specs.Groups.{IsGroup, child_bound}
use Rattle.flow_nodes.specs.Marks.{chosen}
use Rattle.flow_nodes.specs.declared.marks.Marks.{Marks}
use Rattle.flow_nodes.specs.declared.pack.Pack.{Pack}
use Rattle.flow_nodes.specs.declared.opener.Opener.{Opener}

-- memory for some groups, whose names are jobs
pub record HasRoom {V : Type 0} (shop : Shop) (pack : Pack V) : Type 0 where
  pub few : length pack.groups.items ≤ 50
  pub names : length pack.names.items ≡ length pack.groups.items * 16
  pub jobs : (place : ℕ) → place < length pack.names.items → IsJob shop (slice_index pack.names.items place)
  pub machines : (group : ℕ) (none : Vec V) → group < length pack.groups.items →
      length (slice_index_or pack.groups.items group none).items ≡ shop.machines

-- groups that have the times of the jobs named
pub record IsPack {V : Type 0} (list : V → List ℕ) (cap width : ℕ) (shop : Shop) (pack : Pack V) : Type 0 where
  pub room : HasRoom shop pack
  pub each : (group : ℕ) (none : Vec V) → group < length pack.groups.items →
      IsGroup list cap width shop (take 16 (drop (group * 16) pack.names.items))
      (slice_index_or pack.groups.items group none).items

-- memory for the times of its first groups in bytes, or of none
pub record HasByteRoom {V : Type 0} (shop : Shop) (pack : Pack V) : Type 0 where
  pub few : length pack.bytes.items ≤ length pack.groups.items
  pub machines : (group : ℕ) (none : Vec (List ℕ)) → group < length pack.bytes.items →
      length (slice_index_or pack.bytes.items group none).items ≡ shop.machines

-- and their times there, those above 255 as 255
pub record AreBytes {V : Type 0} (shop : Shop) (pack : Pack V) : Type 0 where
  pub room : HasByteRoom shop pack
  pub each : (group : ℕ) (none : Vec (List ℕ)) → group < length pack.bytes.items →
      IsGroup (λ (lanes : List ℕ). lanes) 255 16 shop (take 16 (drop (group * 16) pack.names.items))
      (slice_index_or pack.bytes.items group none).items

-- the jobs that a pack has at marked places, in order
abbrev pub jobs_at : {V : Type 0} → Pack V → Marks → List ℕ
jobs_at pack marks = chosen marks.words pack.names.items

-- the jobs left at a node are those of some names that are marked
abbrev pub HasLeft : Shop → List ℕ → List ℕ → List ℕ → Marks → Type 0
HasLeft shop first last names marks = chosen marks.words names ≡ jobs_left shop.jobs (first ++ last)

-- the jobs left whose children at an end are below a threshold, in increasing order; the other children are pruned
abbrev pub left_below : Shop → ℕ → End → List ℕ → List ℕ → List ℕ
left_below shop threshold end first last =
    filter (λ job. nat_lt (child_bound shop end first last job) threshold) (jobs_left shop.jobs (first ++ last))

-- an opener knows how many machines there are, and has the rows of the jobs
pub record HasRoomFor {V : Type 0} (shop : Shop) (opener : Opener V) : Type 0 where
  pub machines : opener.machines ≡ shop.machines
  pub rows : AreRows shop opener.rows.items
