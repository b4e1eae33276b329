-- The open nodes of a search, in a list, and what they share.
use Rattle.std.specs.Prelude.{ℕ, ◌≡◌, ◌+◌, ◌-◌, ◌<◌, ◌≤◌, List, [], ◌∷◌, length, slice_index_or}
use Rattle.flow_shop.specs.Shop.{Shop}
use Rattle.flow_shop.specs.Ends.{end_bound}
use Rattle.flow_shop.specs.Directions.{first_with, last_with}
use Rattle.flow_shop.specs.declared.end.End.{End}
use Rattle.flow_nodes.specs.Vectors.{limit_of}
use Rattle.flow_nodes.specs.Packs.{HasRoom, HasRoomFor, IsPack}
use Rattle.flow_nodes.specs.declared.pack.Pack.{Pack}
use Rattle.flow_nodes.specs.Open.{HasRoomToOpen, IsOpenNode}
use Rattle.flow_nodes.specs.declared.open.OpenNode.{OpenNode}
use Rattle.flow_directions.specs.declared.tree.Tree.{Tree}

-- memory for packs of one group, of two, and so on
pub record HavePacks {V : Type 0} (shop : Shop) (packs : List (Pack V)) : Type 0 where
  pub few : length packs ≤ 50
  pub rooms : (place : ℕ) (none : Pack V) → place < length packs → HasRoom shop (slice_index_or packs place none)
  pub groups : (place : ℕ) (none : Pack V) → place < length packs →
      length (slice_index_or packs place none).groups.items ≡ place + 1

-- what can open nodes by a threshold: its opener by the limit of that, no greater than the cap; its packs; and a list
-- of nodes of which each has memory for as many groups as the greatest pack
pub record IsTree {V : Type 0} (cap : ℕ) (shop : Shop) (threshold : ℕ) (tree : Tree V) : Type 0 where
  pub limit : tree.opener.limit ≡ limit_of threshold
  pub capped : limit_of threshold ≤ cap
  pub opener : HasRoomFor shop tree.opener
  pub packs : HavePacks shop tree.packs.items
  pub nodes : (place : ℕ) (none : OpenNode V) → place < length tree.nodes.items →
      HasRoomToOpen shop (length tree.packs.items) (slice_index_or tree.nodes.items place none)

-- at a place of a list of nodes stands the node of these lists, which is below the threshold; it is opened, and its
-- jobs left stand in the pack of so many groups
pub record IsOpenAt {V : Type 0} (list : V → List ℕ) (cap width : ℕ) (shop : Shop) (threshold : ℕ)
    (first last : List ℕ) (groups place : ℕ) (packs : List (Pack V)) (nodes : List (OpenNode V)) : Type 0 where
  pub below : end_bound shop first last < threshold
  pub is_pack : (none : Pack V) → IsPack list cap width shop (slice_index_or packs (groups - 1) none)
  pub is_open : (none : Pack V) (empty : OpenNode V) → IsOpenNode list cap width shop threshold first last
      (slice_index_or packs (groups - 1) none) (slice_index_or nodes place empty)

-- from a place of a list of nodes on stand the children of a node that put these jobs at an end, one behind the other
abbrev pub AreKept : {V : Type 0} → (V → List ℕ) → ℕ → ℕ → Shop → ℕ → End → List ℕ → List ℕ → ℕ → List ℕ → ℕ →
    List (Pack V) → List (OpenNode V) → Type 0
AreKept list cap width shop threshold end first last groups [] from packs nodes = Unit {0}
AreKept list cap width shop threshold end first last groups (job ∷ jobs) from packs nodes =
    IsOpenAt list cap width shop threshold (first_with end first job) (last_with end last job) groups from packs nodes
    × AreKept list cap width shop threshold end first last groups jobs (from + 1) packs nodes
