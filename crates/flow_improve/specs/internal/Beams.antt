-- What a beam computes in.
use Rattle.std.specs.Prelude.{ℕ, ◌≡◌, ◌-◌, ◌<◌, ◌≤◌, List, length, take, drop, slice_index, All}
use Rattle.std.specs.List.{Contains}
use Rattle.flow_shop.specs.Ends.{end_bound}
use Rattle.flow_shop.specs.Shop.{Shop}
use Rattle.flow_shop.specs.Rows.{AreRows}
use Rattle.flow_shop.specs.Sequences.{IsSequence}
use Rattle.flow_shop.specs.declared.end.End.TheVariants.{Front, Back}
use Rattle.flow_nodes.specs.Nodes.{IsNode}
use Rattle.flow_nodes.specs.Groups.{AreGroups, IsCappedBound}
use Rattle.flow_improve.specs.declared.two_ended.bounds.ChildBounds.{ChildBounds}
use Rattle.flow_improve.specs.declared.two_ended.entry.Entry.{Entry}
use Rattle.flow_improve.specs.declared.two_ended.pass.Passes.{Passes}

-- the first list of an entry's node
abbrev pub first_of : Entry → List ℕ
first_of entry = take entry.first entry.jobs.items

-- the last list of an entry's node
abbrev pub last_of : Entry → List ℕ
last_of entry = drop entry.before entry.jobs.items

-- the job of an entry at a place
abbrev pub job_at : Entry → ℕ → ℕ
job_at entry place = slice_index entry.jobs.items place

-- an entry has the node of its two lists, and the jobs left between them
pub record IsEntry (shop : Shop) (entry : Entry) : Type 0 where
  pub jobs : IsSequence shop.jobs entry.jobs.items
  pub order : entry.first ≤ entry.before
  pub within : entry.before ≤ shop.jobs
  pub node : IsNode shop (first_of entry) (last_of entry) entry.node

-- the bound of an entry's node
abbrev pub bound_of : Shop → Entry → ℕ
bound_of shop entry = end_bound shop (first_of entry) (last_of entry)

-- jobs are those of one of some entries, and no node of these has a smaller bound than its node
abbrev pub HasLeastBound : Shop → List Entry → List ℕ → Type 0
HasLeastBound shop entries jobs =
    (entry : Entry) × Contains entries entry × (jobs ≡ entry.jobs.items)
    × All (λ other. bound_of shop entry ≤ bound_of shop other) entries

-- entries of an instance
abbrev pub AreEntries : Shop → List Entry → Type 0
AreEntries shop entries = All (λ entry. IsEntry shop entry) entries

-- the bounds of the children that put the job of an entry at a place at the front and at the back, or the cap where
-- that is less
abbrev pub HasBoundsAt : Shop → Entry → ChildBounds → ℕ → Type 0
HasBoundsAt shop entry bounds place =
    IsCappedBound shop entry.node Front (job_at entry place) bounds.cap
    (slice_index bounds.front (job_at entry place - 1))
    × IsCappedBound shop entry.node Back (job_at entry place) bounds.cap
    (slice_index bounds.back (job_at entry place - 1))

-- the bounds of all children of an entry's node
abbrev pub HasBounds : Shop → Entry → ChildBounds → Type 0
HasBounds shop entry bounds =
    (place : ℕ) → entry.first ≤ place → place < entry.before → HasBoundsAt shop entry bounds place

-- what passes compute in: lists of entries of an instance, and the times of its jobs
pub record ArePasses {V : Type 0} (list : V → List ℕ) (cap width : ℕ) (shop : Shop) (passes : Passes V) : Type 0 where
  pub rows : AreRows shop passes.rows.items
  pub groups : AreGroups list cap width shop passes.groups.items
  pub cap_is : passes.bounds.cap ≡ cap
  pub root : IsEntry shop passes.root
  pub entries : AreEntries shop passes.list.items
  pub next : AreEntries shop passes.next.items
  pub some : 1 ≤ length passes.list.items
  pub as_many : length passes.next.items ≡ length passes.list.items
  pub count : passes.count ≤ length passes.list.items
