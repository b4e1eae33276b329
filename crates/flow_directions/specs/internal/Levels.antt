-- The nodes whose children are searched, each of which is a child of the one before.
use Rattle.std.specs.Prelude.{ℕ, zero, suc, ◌≡◌, ◌+◌, ◌-◌, ◌*◌, ◌<◌, ◌≤◌, false, List, [], ◌∷◌, ◌++◌, length, Some}
use Rattle.std.specs.Prelude.{slice_index, slice_index_or}
use Rattle.std.specs.List.{flat_map, AllByRecursion}
use Rattle.flow_shop.specs.Shop.{Shop}
use Rattle.flow_shop.specs.Sequences.{has, jobs_left, AreDistinct}
use Rattle.flow_shop.specs.Directions.{first_with, last_with}
use Rattle.flow_shop.specs.declared.end.End.{End}
use Rattle.flow_nodes.specs.Nodes.{IsJob}
use Rattle.flow_nodes.specs.Groups.{child_bound, group_count}
use Rattle.flow_nodes.specs.Marks.{mark, chosen}
use Rattle.flow_nodes.specs.Packs.{left_below}
use Rattle.flow_nodes.specs.declared.pack.Pack.{Pack}
use Rattle.flow_directions.specs.Search.{Visit, child_visits, end_taken}
use Rattle.flow_nodes.specs.Open.{children_at}
use Rattle.flow_directions.specs.internal.Lists.{HasLists}
use Rattle.flow_directions.specs.internal.Tree.{AreKept, IsOpenAt}
use Rattle.flow_nodes.specs.declared.open.OpenNode.{OpenNode}
use Rattle.flow_directions.specs.declared.level.Level.{Level}
use Rattle.flow_directions.specs.declared.lists.Lists.{Lists}
use Rattle.flow_directions.specs.declared.tree.Tree.{Tree}

-- the names of the pack at a place
abbrev pub names_at : {V : Type 0} → List (Pack V) → ℕ → List ℕ
names_at [] place = []
names_at (pack ∷ packs) zero = pack.names.items
names_at (pack ∷ packs) (suc place) = names_at packs place

-- the names among which the jobs left stand, where so many are left
abbrev pub names_of : {V : Type 0} → List (Pack V) → ℕ → List ℕ
names_of packs left = names_at packs (group_count left - 1)

-- a job left whose child at an end is below the threshold
pub record IsOpen (shop : Shop) (threshold : ℕ) (end : End) (first last : List ℕ) (job : ℕ) : Type 0 where
  pub is_job : IsJob shop job
  pub left : has (first ++ last) job ≡ false
  pub below : child_bound shop end first last job < threshold

-- a level whose children that put these jobs are still to be searched: its node stands in a list of nodes, and so do
-- these children, where they are kept, all before the level's first free place
pub record HasChildren {V : Type 0} (list : V → List ℕ) (cap width : ℕ) (shop : Shop) (threshold : ℕ)
    (packs : List (Pack V)) (nodes : List (OpenNode V)) (left : ℕ) (first last jobs : List ℕ) (level : Level) :
    Type 0 where
  pub count : length (jobs_left shop.jobs (first ++ last)) ≡ left
  pub is_open : IsOpenAt list cap width shop threshold first last (group_count left) level.at packs nodes
  pub low : level.at < level.top
  pub within : (empty : OpenNode V) (place : ℕ) → mark level.rest.words place ≡ 1 →
      mark (children_at level.end (slice_index_or nodes level.at empty)).below.words place ≡ 1
  pub each : AllByRecursion (IsOpen shop threshold level.end first last) jobs
  pub distinct : AreDistinct jobs
  pub behind : (from : ℕ) → level.kept ≡ Some from → (level.at < from) × (from + length jobs ≤ level.top)
  pub small : (from : ℕ) → level.kept ≡ Some from → level.top ≤ 4294967295
  pub kept : (from : ℕ) → level.kept ≡ Some from →
      AreKept list cap width shop threshold level.end first last (group_count left) jobs from packs nodes

-- the jobs whose children are still to be searched
abbrev pub jobs_of : (ℕ → List ℕ) → ℕ → Level → List ℕ
jobs_of names left level = chosen level.rest.words (names left)

-- a level of a node at which so many jobs are left: the children of the marked jobs are still to be searched
abbrev pub IsLevel : {V : Type 0} → (V → List ℕ) → ℕ → ℕ → Shop → ℕ → List (Pack V) → List (OpenNode V) → ℕ →
    List ℕ → List ℕ → Level → Type 0
IsLevel list cap width shop threshold packs nodes left first last level =
    HasChildren list cap width shop threshold packs nodes left first last (jobs_of (names_of packs) left level) level

-- a level whose job makes the child that is searched
pub record IsAbove {V : Type 0} (list : V → List ℕ) (cap width : ℕ) (shop : Shop) (threshold : ℕ)
    (packs : List (Pack V)) (nodes : List (OpenNode V)) (left : ℕ) (first last : List ℕ) (level : Level) :
    Type 0 where
  pub is_level : IsLevel list cap width shop threshold packs nodes left first last level
  pub opened : IsOpen shop threshold level.end first last level.job

-- a level above whose child the search stops: its other children are left
pub record IsStopped (shop : Shop) (threshold : ℕ) (names : ℕ → List ℕ) (left : ℕ) (first last : List ℕ)
    (level : Level) : Type 0 where
  pub each : AllByRecursion (IsOpen shop threshold level.end first last) (jobs_of names left level)
  pub distinct : AreDistinct (jobs_of names left level)
  pub opened : IsOpen shop threshold level.end first last level.job

-- a level of which no child is searched yet: all those below the threshold at the end that is taken are still to be
pub record IsBegun {V : Type 0} (list : V → List ℕ) (cap width : ℕ) (shop : Shop) (threshold : ℕ)
    (packs : List (Pack V)) (nodes : List (OpenNode V)) (left : ℕ) (first last : List ℕ) (level : Level) :
    Type 0 where
  pub is_level : IsLevel list cap width shop threshold packs nodes left first last level
  pub end : level.end ≡ end_taken shop threshold first last
  pub rest : jobs_of (names_of packs) left level ≡ left_below shop threshold level.end first last

-- the child of a level's job is searched next: the job stands at a marked place, which is a mark of the rest no more
pub record IsNext {V : Type 0} (list : V → List ℕ) (cap width : ℕ) (shop : Shop) (threshold : ℕ)
    (packs : List (Pack V)) (nodes : List (OpenNode V)) (left : ℕ) (first last : List ℕ) (place : ℕ)
    (level : Level) : Type 0 where
  pub has_children : HasChildren list cap width shop threshold packs nodes left first last
      (level.job ∷ jobs_of (names_of packs) left level) level
  pub marked : (empty : OpenNode V) →
      mark (children_at level.end (slice_index_or nodes level.at empty)).below.words place ≡ 1
  pub within : place < group_count left * 16
  pub named : slice_index (names_of packs left) place ≡ level.job

-- the first list to which levels lead, from the first list of the first level's node
abbrev pub first_of : List ℕ → List Level → List ℕ
first_of first [] = first
first_of first (level ∷ levels) = first_of (first_with level.end first level.job) levels

-- the last list to which they lead
abbrev pub last_of : List ℕ → List Level → List ℕ
last_of last [] = last
last_of last (level ∷ levels) = last_of (last_with level.end last level.job) levels

-- levels of which each is of the child that the one before it searches: this holds of each, by how many jobs are left
-- and by its lists
abbrev pub AreLevels : (ℕ → List ℕ → List ℕ → Level → Type 0) → ℕ → List ℕ → List ℕ → List Level → Type 0
AreLevels P left first last [] = Unit {0}
AreLevels P left first last (level ∷ levels) =
    P left first last level
    × AreLevels P (left - 1) (first_with level.end first level.job) (last_with level.end last level.job) levels

-- the first free place of the first level; or this one, where there is no level
abbrev pub first_top : List Level → ℕ → ℕ
first_top [] top = top
first_top (level ∷ levels) top = level.top

-- each level has its first free place no further than the next one, and the last of them no further than this place
abbrev pub AreNested : List Level → ℕ → Type 0
AreNested [] top = Unit {0}
AreNested (level ∷ levels) top = (level.top ≤ first_top levels top) × AreNested levels top

-- what is met at the children that are still to be searched
abbrev pub rest_met : Shop → ℕ → (ℕ → List ℕ) → ℕ → List ℕ → List ℕ → Level → List Visit
rest_met shop threshold names left first last level =
    flat_map (child_visits shop threshold level.end first last) (jobs_of names left level)

-- what is met where this is met first, and then the rest of the levels, the last one's first
abbrev pub met_with : Shop → ℕ → (ℕ → List ℕ) → ℕ → List ℕ → List ℕ → List Level → List Visit → List Visit
met_with shop threshold names left first last [] met = met
met_with shop threshold names left first last (level ∷ levels) met =
    met_with shop threshold names (left - 1) (first_with level.end first level.job) (last_with level.end last level.job)
    levels met ++ rest_met shop threshold names left first last level

-- the node at which a search begins, which is opened and stands at the first place of a tree's list
pub record IsAt {V : Type 0} (list : V → List ℕ) (cap width : ℕ) (shop : Shop) (threshold : ℕ) (first last : List ℕ)
    (left : ℕ) (lists : Lists) (tree : Tree V) : Type 0 where
  pub is_open : IsOpenAt list cap width shop threshold first last (group_count left) 0 tree.packs.items tree.nodes.items
  pub has_lists : HasLists shop.jobs first last lists
  pub count : length (jobs_left shop.jobs (first ++ last)) ≡ left

-- a search stands at the child of the last of some levels, whose lists an array has; so many jobs were left at the
-- first level's node
pub record StandsBelow (shop : Shop) (threshold : ℕ) (names : ℕ → List ℕ) (first last : List ℕ) (left : ℕ)
    (lists : Lists) (levels : List Level) : Type 0 where
  pub are_levels : AreLevels (IsStopped shop threshold names) left first last levels
  pub has_lists : HasLists shop.jobs (first_of first levels) (last_of last levels) lists
