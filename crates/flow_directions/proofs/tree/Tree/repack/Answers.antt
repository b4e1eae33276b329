use Rattle.std.proofs.Common.{◌≡◌, ◌++◌, ◌+◌, ◌-◌, ◌*◌, ◌<◌, ◌≤◌, ℕ, length, set, take, drop, slice_index_or}
use Rattle.std.proofs.Common.{ap, sym, ◌∙◌, subst, arith}
use Rattle.std.proofs.lemmas.List.{get_or-set_same, get_or-set_other, length-set, take-set}
use Rattle.flow_shop.specs.Sequences.{jobs_left}
use Rattle.flow_nodes.specs.Nodes.{IsNode}
use Rattle.flow_nodes.specs.Marks.{chosen}
use Rattle.flow_nodes.specs.Packs.{HasLeft, HasRoom, IsPack, jobs_at}
use Rattle.flow_nodes.specs.Open.{HasRoomToOpen, IsOpenNode}
use Rattle.flow_directions.specs.internal.Tree.{HavePacks, IsOpenAt}
use Rattle.flow_directions.proofs.TreeSteps.{each-set, names-count, packs-set, room-fewer, written-back}
use Rattle.flow_directions.proofs.tree.Tree.repack.Given.{Over}
use Rattle.flow_directions.proofs.tree.Tree.repack.Goals as goal
use Rattle.flow_directions.proofs.tree.Tree.repack.Goals.{After-index, After-index-3, After-refill}

pub refill-requires-clause-rooms : goal.refill-requires-clause-rooms
refill-requires-clause-rooms g c none =
    subst (λ ps. HasRoom c.args.instance.now (slice_index_or ps (c.args.groups - 1) none))
    (sym c.as_mut_slice.ensures.value)
    (c.requires.at.3.packs.rooms (c.args.groups - 1) none (omega (arith, c.requires.more, c.requires.some)))

pub refill-requires-clause-from : goal.refill-requires-clause-from
refill-requires-clause-from g c none =
    subst (λ ps. HasRoom c.args.instance.now (slice_index_or ps c.args.groups none))
    (sym c.as_mut_slice.ensures.value) (c.requires.at.3.packs.rooms c.args.groups none c.requires.more)

-- the jobs that are packed anew are those left
left-is : (g : Over) (c : After-index g) (threshold : ℕ) {first last : _} (none : _) →
    IsOpenAt g.V.Vector.list g.V.Vector.CAP g.V.Vector.WIDTH c.args.instance.now threshold first last (c.args.groups + 1)
    c.args.at c.args.self.now.packs.items c.args.self.now.nodes.items →
    jobs_at (slice_index_or c.as_mut_slice.result.now c.args.groups none) c.index.result.now.left
    ≡ jobs_left c.args.instance.now.jobs (first ++ last)
left-is g c threshold none is =
    let node = c.index.result.now in
    let e : c.args.groups + 1 - 1 ≡ c.args.groups = omega arith in
    ap (λ ps. jobs_at (slice_index_or ps c.args.groups none) node.left) c.as_mut_slice.ensures.value
    ∙ ap (λ i. jobs_at (slice_index_or c.args.self.now.packs.items i none) node.left) (sym e)
    ∙ ap (λ n. jobs_at (slice_index_or c.args.self.now.packs.items (c.args.groups + 1 - 1) none) n.left)
    c.index.ensures
    ∙ (is.is_open none node).has_left

pub refill-requires-clause-fits : goal.refill-requires-clause-fits
refill-requires-clause-fits g c none =
    let packs = c.args.self.now.packs.items in
    let at = c.requires.at in
    omega (
      arith,
      c.requires.some,
      at.5,
      ap length (left-is g (goal.at.refill-requires-clause-fits g c).After-index at.0 none at.4),
      ap (λ ps. length (slice_index_or ps (c.args.groups - 1) none).names.items) c.as_mut_slice.ensures.value,
      names-count c.args.instance.now packs (c.args.groups - 1) none at.3.packs
          (omega (arith, c.requires.more, c.requires.some)),
    )

-- the packs, once it is filled
packs-are : (g : Over) (c : After-refill g) →
    take c.args.self.now.packs.len
    (c.refill.new.packs ++ drop (length c.refill.new.packs) c.args.self.now.packs.items)
    ≡ set c.args.self.now.packs.items (c.args.groups - 1) c.refill.ensures.pack.0
packs-are g c =
    let packs = c.args.self.now.packs.items in
    let new = c.refill.new.packs in
    let pack = c.refill.ensures.pack.0 in
    let new_is : new ≡ set packs (c.args.groups - 1) pack =
    c.refill.ensures.pack.1 ∙ ap (λ ps. set ps (c.args.groups - 1) pack) c.as_mut_slice.ensures.value in
    written-back c.args.self.now.packs.len packs new (omega (arith, c.args.self.now.packs.ok.0))
    (ap length new_is ∙ length-set packs (c.args.groups - 1) pack)
    ∙ new_is

-- the pack that is filled
pack-is : (g : Over) (c : After-refill g) (none : _) →
    slice_index_or (take c.args.self.now.packs.len
    (c.refill.new.packs ++ drop (length c.refill.new.packs) c.args.self.now.packs.items)) (c.args.groups - 1) none
    ≡ c.refill.ensures.pack.0
pack-is g c none =
    ap (λ ps. slice_index_or ps (c.args.groups - 1) none) (packs-are g c)
    ∙ get_or-set_same c.args.self.now.packs.items (c.args.groups - 1) c.refill.ensures.pack.0 none
    (omega (arith, c.requires.more, c.requires.some))

-- how many groups it has
groups-are : (g : Over) (c : After-refill g) → length c.refill.ensures.pack.0.groups.items ≡ c.args.groups
groups-are g c =
    let pack = c.refill.ensures.pack.0 in
    omega (
      arith,
      c.requires.some,
      c.refill.ensures.pack.3 pack,
      ap (λ ps. length (slice_index_or ps (c.args.groups - 1) pack).groups.items) c.as_mut_slice.ensures.value,
      c.requires.at.3.packs.groups (c.args.groups - 1) pack (omega (arith, c.requires.more, c.requires.some)),
    )

-- as it is read
read-is : (g : Over) (c : After-index-3 g) → c.index-3.result.now ≡ c.refill.ensures.pack.0
read-is g c = c.index-3.ensures ∙ pack-is g (goal.at.After-index-3 g c).After-refill c.index-3.result.now

-- the node that is packed
node-is : (g : Over) (c : After-index-3 g) (threshold : ℕ) {first last : _} →
    IsOpenAt g.V.Vector.list g.V.Vector.CAP g.V.Vector.WIDTH c.args.instance.now threshold first last (c.args.groups + 1)
    c.args.at c.args.self.now.packs.items c.args.self.now.nodes.items →
    IsNode c.args.instance.now first last c.index-2.result.now.node
node-is g c threshold {first} {last} is =
    subst (λ n. IsNode c.args.instance.now first last n.node) (sym c.index-2.ensures)
    (is.is_open c.refill.ensures.pack.0 c.index-2.result.now).is_node

-- and its jobs left
has-left : (g : Over) (c : After-index-3 g) (threshold : ℕ) {first last : _} →
    IsOpenAt g.V.Vector.list g.V.Vector.CAP g.V.Vector.WIDTH c.args.instance.now threshold first last (c.args.groups + 1)
    c.args.at c.args.self.now.packs.items c.args.self.now.nodes.items →
    length (jobs_left c.args.instance.now.jobs (first ++ last)) ≡ c.args.groups * 16 →
    HasLeft c.args.instance.now first last c.index-3.result.now.names.items c.first-packed.result
has-left g c threshold is count =
    let pack = c.refill.ensures.pack.0 in
    let read = read-is g c in
    let left = left-is g (goal.at.After-index-3 g c).After-index threshold pack is in
    let names : length pack.names.items ≡ c.args.groups * 16 =
    omega (arith, groups-are g (goal.at.After-index-3 g c).After-refill, c.refill.ensures.pack.2.room.names) in
    ap (λ p. chosen c.first-packed.result.words p.names.items) read
    ∙ c.first-packed.ensures.begin pack.names.items (omega (arith, names))
    ∙ ap (λ n. take n pack.names.items) (omega (arith, count, ap length left))
    ∙ c.refill.ensures.pack.4 pack
    ∙ left

pub open-requires-clause-at : goal.open-requires-clause-at
open-requires-clause-at g c =
    let here = (goal.at.open-requires-clause-at g c).After-index-3 in
    let at = c.requires.at in
    let shop = c.args.instance.now in
    let nodes = c.args.self.now.nodes.items in
    let packs = c.args.self.now.packs.items in
    let old = c.index_mut-packed.result.now in
    let fewer : length c.index-3.result.now.groups.items ≤ length packs = omega (
      arith,
      ap (λ p. length p.groups.items) (read-is g here),
      groups-are g (goal.at.open-requires-clause-at g c).After-refill,
      c.requires.more,
    ) in
    let room = room-fewer shop (length c.index-3.result.now.groups.items) (length packs) old fewer
    (subst (HasRoomToOpen shop (length packs)) (sym c.index_mut-packed.ensures.value)
    (at.3.nodes c.args.to old c.requires.room)) in (
      shop,
      at.0,
      at.1,
      at.2,
      node-is g here at.0 at.4,
      subst (IsPack g.V.Vector.list g.V.Vector.CAP g.V.Vector.WIDTH shop) (sym (read-is g here)) c.refill.ensures.pack.2,
      at.3.opener,
      at.3.limit,
      at.4.below,
      has-left g here at.0 at.4 at.5,
      record {
        at_front = room.at_front;
        at_back = room.at_back;
        front_bounds = room.front_bounds;
        back_bounds = room.back_bounds;
      },
    )

pub returns-clause-tree : goal.returns-clause-tree
returns-clause-tree g c threshold tree =
    let shop = c.args.instance.now in
    let nodes = c.args.self.now.nodes.items in
    let packs = c.args.self.now.packs.items in
    let are = packs-are g (goal.at.returns-clause-tree g c).After-refill in
    let pack = c.refill.ensures.pack.0 in
    let count : length (set packs (c.args.groups - 1) pack) ≡ length packs =
    length-set packs (c.args.groups - 1) pack in
    let low : c.args.groups - 1 < length packs = omega (arith, c.requires.more, c.requires.some) in
    let old = c.index_mut-packed.result.now in
    let room = subst (HasRoomToOpen shop (length packs)) (sym c.index_mut-packed.ensures.value)
    (tree.nodes c.args.to old c.requires.room) in
    record {
      limit = tree.limit;
      capped = tree.capped;
      opener = tree.opener;
      packs = subst (HavePacks shop) (sym are)
          (packs-set shop packs (c.args.groups - 1) pack low c.refill.ensures.pack.2.room
          (omega (arith, c.requires.some, groups-are g (goal.at.returns-clause-tree g c).After-refill)) tree.packs);
      nodes = λ place none within.
          subst (λ ps. HasRoomToOpen shop (length ps) (slice_index_or (set nodes c.args.to c.open.new.node) place none))
          (sym are)
          (subst (λ n. HasRoomToOpen shop n (slice_index_or (set nodes c.args.to c.open.new.node) place none))
          (sym count)
          (each-set (λ _ node. HasRoomToOpen shop (length packs) node) nodes c.args.to c.open.new.node c.requires.room
          (c.open.ensures.room shop (length packs) (record {
            at_front = room.at_front;
            at_back = room.at_back;
            front_bounds = room.front_bounds;
            back_bounds = room.back_bounds;
          }))
          tree.nodes place none within));
    }

pub returns-clause-count : goal.returns-clause-count
returns-clause-count g c =
    ap length (packs-are g (goal.at.returns-clause-count g c).After-refill)
    ∙ length-set c.args.self.now.packs.items (c.args.groups - 1) c.refill.ensures.pack.0

pub returns-clause-others : goal.returns-clause-others
returns-clause-others g c place none apart =
    ap (λ ps. slice_index_or ps place none) (packs-are g (goal.at.returns-clause-others g c).After-refill)
    ∙ get_or-set_other c.args.self.now.packs.items (c.args.groups - 1) place c.refill.ensures.pack.0 none apart

pub returns-clause-size : goal.returns-clause-size
returns-clause-size g c = length-set c.args.self.now.nodes.items c.args.to c.open.new.node

pub returns-clause-above : goal.returns-clause-above
returns-clause-above g c = take-set c.args.self.now.nodes.items c.args.to c.open.new.node

pub returns-clause-node : goal.returns-clause-node
returns-clause-node g c threshold first last tree is count =
    let here = (goal.at.returns-clause-node g c).After-index-3 in
    let shop = c.args.instance.now in
    let nodes = c.args.self.now.nodes.items in
    let packs = c.args.self.now.packs.items in
    let pack = c.refill.ensures.pack.0 in
    let low : c.args.groups - 1 < length packs = omega (arith, c.requires.more, c.requires.some) in
    let opened = c.open.ensures.node shop threshold first last tree.limit (node-is g here threshold is)
    (subst (IsPack g.V.Vector.list g.V.Vector.CAP g.V.Vector.WIDTH shop) (sym (read-is g here)) c.refill.ensures.pack.2)
    (has-left g here threshold is count) in
    subst (λ ps. IsOpenAt g.V.Vector.list g.V.Vector.CAP g.V.Vector.WIDTH shop threshold first last c.args.groups c.args.to ps
    (set nodes c.args.to c.open.new.node)) (sym (packs-are g (goal.at.returns-clause-node g c).After-refill)) (record {
      below = is.below;
      is_pack = λ none.
          subst (IsPack g.V.Vector.list g.V.Vector.CAP g.V.Vector.WIDTH shop)
          (sym (get_or-set_same packs (c.args.groups - 1) pack none low)) c.refill.ensures.pack.2;
      is_open = λ none empty.
          subst (λ n. IsOpenNode g.V.Vector.list g.V.Vector.CAP g.V.Vector.WIDTH shop threshold first last
          (slice_index_or (set packs (c.args.groups - 1) pack) (c.args.groups - 1) none) n)
          (sym (get_or-set_same nodes c.args.to c.open.new.node empty c.requires.room))
          (subst (λ p. IsOpenNode g.V.Vector.list g.V.Vector.CAP g.V.Vector.WIDTH shop threshold first last p c.open.new.node)
          (read-is g here ∙ sym (get_or-set_same packs (c.args.groups - 1) pack none low)) opened);
    })
