-- Nodes that are opened at both ends: their children there that are below a threshold, and when the jobs of these
-- start.
use Rattle.std.specs.Prelude.{ℕ, ◌≡◌, ◌+◌, ◌-◌, ◌/◌, ◌%◌, ◌<◌, ◌≤◌, max, List, [], ◌∷◌, ◌++◌, length, slice_index}
use Rattle.std.specs.Prelude.{slice_index_or, Some, None}
use Rattle.std.specs.Global.{Vec}
use Rattle.flow_shop.specs.Shop.{Shop}
use Rattle.flow_shop.specs.Ends.{front, back}
use Rattle.flow_shop.specs.declared.end.End.{End}
use Rattle.flow_shop.specs.declared.end.End.TheVariants.{Front, Back}
use Rattle.flow_nodes.specs.Vectors.{HasLane}
use Rattle.flow_nodes.specs.Nodes.{IsMachine, IsNode}
use Rattle.flow_nodes.specs.Groups.{child_bound}
use Rattle.flow_nodes.specs.Marks.{mark, chosen}
use Rattle.flow_nodes.specs.Packs.{HasLeft, left_below}
use Rattle.flow_nodes.specs.declared.marks.Marks.{Marks}
use Rattle.flow_nodes.specs.declared.pack.Pack.{Pack}
use Rattle.flow_nodes.specs.declared.open.Children.{Children}
use Rattle.flow_nodes.specs.declared.open.OpenNode.{OpenNode}

-- when a job can start on a machine behind a first list; or, counted from the other end, before a last list
abbrev pub start_at : Shop → End → List ℕ → List ℕ → ℕ → ℕ → ℕ
start_at shop Front first last job machine =
    max (front shop (first ++ job ∷ []) (machine - 1)) (front shop first machine)
start_at shop Back first last job machine =
    max (back shop (job ∷ last) (machine + 1)) (back shop last machine)

-- when a job starts at an end on each machine stands in a lane of vectors, one for each machine
abbrev pub HasStarts : {V : Type 0} → (V → List ℕ) → ℕ → ℕ → Shop → End → List ℕ → List ℕ → ℕ → ℕ → List V → Type 0
HasStarts {V} list cap width shop end first last job lane starts =
    (machine : ℕ) (zero : V) → IsMachine shop machine →
    HasLane cap width (list (slice_index_or starts (machine - 1) zero)) lane (start_at shop end first last job machine)

-- and the bound of the child that puts the job there stands in a lane of one vector
pub record HasStartsAndBound {V : Type 0} (list : V → List ℕ) (cap width : ℕ) (shop : Shop) (end : End)
    (first last : List ℕ) (job lane : ℕ) (starts : List V) (bounds : V) : Type 0 where
  pub start : HasStarts list cap width shop end first last job lane starts
  pub bound : HasLane cap width (list bounds) lane (child_bound shop end first last job)

-- what is kept of a node's children at an end: those below the threshold are marked, among the jobs left, and counted;
-- the bounds of their groups are known; and where those of a group are, its jobs left have them, and their starts
pub record AreChildren {V : Type 0} (list : V → List ℕ) (cap width : ℕ) (shop : Shop) (threshold : ℕ) (end : End)
    (first last names : List ℕ) (left : Marks) (children : Children V) : Type 0 where
  pub below : chosen children.below.words names ≡ left_below shop threshold end first last
  pub within : (place : ℕ) → place < length names → mark children.below.words place ≡ 1 →
      mark left.words place ≡ 1
  pub count : children.count ≡ length (left_below shop threshold end first last)
  pub known : (place : ℕ) → place < length names → mark children.below.words place ≡ 1 →
      (bounds : V) × (slice_index_or children.bounds.items (place / 16) None ≡ Some bounds)
  pub whole : (place : ℕ) (none : Vec V) (bounds : V) → place < length names → mark left.words place ≡ 1 →
      slice_index_or children.bounds.items (place / 16) None ≡ Some bounds →
      HasStartsAndBound list cap width shop end first last (slice_index names place) (place % 16)
      (slice_index_or children.starts.items (place / 16) none).items bounds

-- what is kept of its children at an end
abbrev pub children_at : {V : Type 0} → End → OpenNode V → Children V
children_at Front node = node.front
children_at Back node = node.back

-- memory for the starts of so many groups
pub record HasStartRoom {V : Type 0} (shop : Shop) (groups : ℕ) (starts : List (Vec V)) : Type 0 where
  pub enough : groups ≤ length starts
  pub machines : (group : ℕ) (none : Vec V) → group < length starts →
      length (slice_index_or starts group none).items ≡ shop.machines

-- memory for the starts and bounds of so many groups at both ends
pub record HasRoomToOpen {V : Type 0} (shop : Shop) (groups : ℕ) (node : OpenNode V) : Type 0 where
  pub at_front : HasStartRoom shop groups node.front.starts.items
  pub at_back : HasStartRoom shop groups node.back.starts.items
  pub front_bounds : groups ≤ length node.front.bounds.items
  pub back_bounds : groups ≤ length node.back.bounds.items

-- a node that is opened at both ends, whose jobs left stand in a pack
pub record IsOpenNode {V : Type 0} (list : V → List ℕ) (cap width : ℕ) (shop : Shop) (threshold : ℕ)
    (first last : List ℕ) (pack : Pack V) (node : OpenNode V) : Type 0 where
  pub is_node : IsNode shop first last node.node
  pub has_left : HasLeft shop first last pack.names.items node.left
  pub at_front : AreChildren list cap width shop threshold Front first last pack.names.items node.left node.front
  pub at_back : AreChildren list cap width shop threshold Back first last pack.names.items node.left node.back
