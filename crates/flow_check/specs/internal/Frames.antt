-- What is kept of the nodes whose children are read.
use Rattle.std.specs.Prelude.{ℕ, zero, suc, ◌≡◌, ◌+◌, ◌-◌, ◌*◌, ◌/◌, ◌<◌, ◌≤◌, min, false, List, [], ◌∷◌, ◌++◌, length, take}
use Rattle.std.specs.Prelude.{slice_index, slice_index_or}
use Rattle.std.specs.List.{AllByRecursion}
use Rattle.flow_shop.specs.Shop.{Shop}
use Rattle.flow_shop.specs.Sequences.{has}
use Rattle.flow_shop.specs.Ends.{end_bound}
use Rattle.flow_shop.specs.Directions.{first_with, last_with}
use Rattle.flow_shop.specs.declared.end.End.{End}
use Rattle.flow_shop.specs.declared.end.End.TheVariants.{Front}
use Rattle.flow_nodes.specs.Vectors.{limit_of}
use Rattle.flow_nodes.specs.Nodes.{IsJob, IsNode}
use Rattle.flow_nodes.specs.Groups.{child_bound}
use Rattle.flow_nodes.specs.Marks.{mark, chosen}
use Rattle.flow_nodes.specs.Packs.{AreBytes, HasByteRoom, HasLeft, HasRoom, HasRoomFor, IsPack}
use Rattle.flow_nodes.specs.declared.pack.Pack.{Pack}
use Rattle.flow_check.specs.declared.two_ended.walk.NodeFrame.{NodeFrame}
use Rattle.flow_check.specs.declared.two_ended.walk.Path.{Path}

-- a job left whose child at an end is below the threshold
pub record IsOpen (shop : Shop) (threshold : ℕ) (end : End) (first last : List ℕ) (job : ℕ) : Type 0 where
  pub is_job : IsJob shop job
  pub left : has (first ++ last) job ≡ false
  pub below : child_bound shop end first last job < threshold

-- the frame of a node, whose jobs left stand among some names
pub record IsFrame (shop : Shop) (threshold : ℕ) (first last names : List ℕ) (frame : NodeFrame) : Type 0 where
  pub is_node : IsNode shop first last frame.node
  pub has_left : HasLeft shop first last names frame.left
  pub within : (place : ℕ) → place < length names → mark frame.below.words place ≡ 1 →
      mark frame.left.words place ≡ 1
  pub each : AllByRecursion (IsOpen shop threshold frame.end first last) (chosen frame.below.words names)

-- the first list to which frames lead, that of the root first
abbrev pub first_of : List ℕ → List NodeFrame → List ℕ
first_of first [] = first
first_of first (frame ∷ frames) = first_of (first_with frame.end first frame.job) frames

-- the last list to which they lead
abbrev pub last_of : List ℕ → List NodeFrame → List ℕ
last_of last [] = last
last_of last (frame ∷ frames) = last_of (last_with frame.end last frame.job) frames

-- frames of which each is of the child that the one before it reads, by the names among which so many jobs left stand
abbrev pub AreFrames : Shop → ℕ → (ℕ → List ℕ) → ℕ → List ℕ → List ℕ → List NodeFrame → Type 0
AreFrames shop threshold names left first last [] = Unit {0}
AreFrames shop threshold names left first last (frame ∷ frames) =
    IsFrame shop threshold first last (names left) frame
    × AreFrames shop threshold names (left - 1) (first_with frame.end first frame.job)
    (last_with frame.end last frame.job)
    frames

-- the frame at a place; any frame past the end
abbrev pub frame_at : List NodeFrame → ℕ → NodeFrame
frame_at frames place = slice_index_or frames place (record {
  node = record { front = []; back = []; work = [] };
  left = record { words = [] };
  end = Front;
  below = record { words = [] };
  job = 0;
})

-- the frame of a path's node
abbrev pub here : {V : Type 0} → Path V → NodeFrame
here path = frame_at path.frames.items path.depth

-- the frames of the nodes above it, the root's first
abbrev pub above : {V : Type 0} → Path V → List NodeFrame
above path = take path.depth path.frames.items

-- the names of the pack at a place
abbrev pub names_at : {V : Type 0} → List (Pack V) → ℕ → List ℕ
names_at [] place = []
names_at (pack ∷ packs) zero = pack.names.items
names_at (pack ∷ packs) (suc place) = names_at packs place

-- how many groups the pack has in which so many jobs left stand: as many as they need, up to 80 jobs, and beyond that
-- as many as the next multiple of 80 jobs needs
abbrev pub pack_groups : ℕ → ℕ
pack_groups left = min ((left + 15) / 16) 5 + ((left + 79) / 80 - 1) * 5

-- memory for packs of one group, of two, and so on, up to as many as all jobs have
pub record HavePacks {V : Type 0} (shop : Shop) (packs : List (Pack V)) : Type 0 where
  pub count : length packs ≡ pack_groups shop.jobs
  pub rooms : (place : ℕ) (none : Pack V) → place < length packs → HasRoom shop (slice_index_or packs place none)
  pub groups : (place : ℕ) (none : Pack V) → place < length packs →
      length (slice_index_or packs place none).groups.items ≡ place + 1
  pub byte_rooms : (place : ℕ) (none : Pack V) → place < length packs →
      HasByteRoom shop (slice_index_or packs place none)

-- the packs of nodes at which so many jobs are left, or more
pub record ArePacks {V : Type 0} (list : V → List ℕ) (cap width : ℕ) (shop : Shop) (left : ℕ)
    (packs : List (Pack V)) : Type 0 where
  pub have : HavePacks shop packs
  pub packed : (more : ℕ) (none : Pack V) → left ≤ more → more ≤ shop.jobs →
      IsPack list cap width shop (slice_index_or packs (pack_groups more - 1) none)
  pub bytes : (more : ℕ) (none : Pack V) → left ≤ more → more ≤ shop.jobs →
      AreBytes shop (slice_index_or packs (pack_groups more - 1) none)

-- a path whose node can be opened: its jobs left stand in the pack of so many groups
pub record IsReady {V : Type 0} (list : V → List ℕ) (cap width : ℕ) (shop : Shop) (threshold : ℕ)
    (first last : List ℕ) (groups : ℕ) (path : Path V) : Type 0 where
  pub is_node : IsNode shop first last (here path).node
  pub bound : end_bound shop first last < threshold
  pub limit : path.opener.limit ≡ limit_of threshold
  pub room : HasRoomFor shop path.opener
  pub is_pack : (none : Pack V) → IsPack list cap width shop (slice_index_or path.packs.items (groups - 1) none)
  pub bytes : (none : Pack V) → AreBytes shop (slice_index_or path.packs.items (groups - 1) none)
  pub has_left : HasLeft shop first last (names_at path.packs.items (groups - 1)) (here path).left

-- the job of a path's frame is put next, at whose child so many jobs are left: it stands at a marked place
pub record IsNext {V : Type 0} (shop : Shop) (first last : List ℕ) (left place : ℕ) (path : Path V) : Type 0 where
  pub is_node : IsNode shop first last (here path).node
  pub is_job : IsJob shop (here path).job
  pub fresh : has (first ++ last) (here path).job ≡ false
  pub count : length first + length last + suc left ≡ shop.jobs
  pub has_left : HasLeft shop first last (names_at path.packs.items (pack_groups (left + 1) - 1)) (here path).left
  pub within : place < length (names_at path.packs.items (pack_groups (left + 1) - 1))
  pub named : slice_index (names_at path.packs.items (pack_groups (left + 1) - 1)) place ≡ (here path).job
  pub marked : mark (here path).left.words place ≡ 1
