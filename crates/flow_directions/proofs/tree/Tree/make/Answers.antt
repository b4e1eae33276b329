use Rattle.std.proofs.Common.{◌≡◌, ◌++◌, ◌-◌, ◌<◌, ◌≤◌, length, set, take, drop, slice_index, slice_index_or}
use Rattle.std.proofs.Common.{ap, sym, ◌∙◌, subst, arith}
use Rattle.std.proofs.lemmas.List.{get_or-set_same, get_or_default, length-set, take-set}
use Rattle.flow_shop.specs.Directions.{first_with, last_with}
use Rattle.flow_nodes.specs.Marks.{mark}
use Rattle.flow_nodes.specs.Packs.{IsPack}
use Rattle.flow_nodes.specs.Open.{HasRoomToOpen, IsOpenNode, children_at}
use Rattle.flow_directions.specs.internal.Tree.{IsOpenAt}
use Rattle.flow_nodes.proofs.OpenSteps.{below-threshold}
use Rattle.flow_directions.proofs.TreeSteps.{children-of, each-set, names-count, room-fewer, written-back}
use Rattle.flow_directions.proofs.tree.Tree.make.Given.{Over}
use Rattle.flow_directions.proofs.tree.Tree.make.Goals as goal
use Rattle.flow_directions.proofs.tree.Tree.make.Goals.{After-make_child}

pub make_child-requires-clause-at : goal.make_child-requires-clause-at
make_child-requires-clause-at g c empty =
    let shop = c.args.instance.now in
    let nodes = c.args.self.now.nodes.items in
    let packs = c.args.self.now.packs.items in
    let slice = c.as_mut_slice.result.now in
    let value = c.as_mut_slice.ensures.value in
    let pack = c.index.result.now in
    let at = c.requires.at in
    let low : c.args.groups - 1 < length packs = omega (arith, c.requires.some, c.requires.few) in
    let groups : length pack.groups.items ≡ c.args.groups = omega (
      arith,
      c.requires.some,
      ap (λ p. length p.groups.items) c.index.ensures,
      at.3.packs.groups (c.args.groups - 1) pack low,
    ) in
    let parent : c.args.at < length nodes = omega (arith, c.requires.order, c.requires.room) in
    let fewer : length pack.groups.items ≤ length packs = omega (arith, groups, c.requires.few) in (
      at.0,
      at.1,
      at.2,
      subst (λ p. IsOpenNode g.V.Vector.list g.V.Vector.CAP g.V.Vector.WIDTH shop at.0 at.1 at.2 p
          (slice_index_or slice c.args.at empty)) (sym c.index.ensures)
          (subst (λ ns. IsOpenNode g.V.Vector.list g.V.Vector.CAP g.V.Vector.WIDTH shop at.0 at.1 at.2
          (slice_index_or packs (c.args.groups - 1) pack) (slice_index_or ns c.args.at empty)) (sym value)
          (at.4.is_open pack empty)),
      subst (IsPack g.V.Vector.list g.V.Vector.CAP g.V.Vector.WIDTH shop) (sym c.index.ensures) (at.4.is_pack pack),
      at.3.opener,
      at.3.limit,
      at.4.below,
      omega (
        arith,
        c.requires.place,
        c.requires.some,
        ap (λ p. length p.names.items) c.index.ensures,
        names-count shop packs (c.args.groups - 1) pack at.3.packs low,
      ),
      ap (λ ns. mark (children_at c.args.put.end (slice_index_or ns c.args.at empty)).below.words c.args.put.place)
          value ∙ c.requires.marked empty,
      room-fewer shop (length pack.groups.items) (length packs) (slice_index_or slice c.args.at empty) fewer
          (subst (λ ns. HasRoomToOpen shop (length packs) (slice_index_or ns c.args.at empty)) (sym value)
          (at.3.nodes c.args.at empty parent)),
      room-fewer shop (length pack.groups.items) (length packs) (slice_index_or slice c.args.to empty) fewer
          (subst (λ ns. HasRoomToOpen shop (length packs) (slice_index_or ns c.args.to empty)) (sym value)
          (at.3.nodes c.args.to empty c.requires.room)),
    )

-- the list, once the child is made
list-is : (g : Over) (c : After-make_child g) →
    take c.args.self.now.nodes.len
    (c.make_child.new.nodes ++ drop (length c.make_child.new.nodes) c.args.self.now.nodes.items)
    ≡ set c.args.self.now.nodes.items c.args.to c.make_child.ensures.0
list-is g c =
    let nodes = c.args.self.now.nodes.items in
    let new = c.make_child.new.nodes in
    let child = c.make_child.ensures.0 in
    let new_is : new ≡ set nodes c.args.to child =
    c.make_child.ensures.1 ∙ ap (λ ns. set ns c.args.to child) c.as_mut_slice.ensures.value in
    written-back c.args.self.now.nodes.len nodes new (omega (arith, c.args.self.now.nodes.ok.0))
    (ap length new_is ∙ length-set nodes c.args.to child)
    ∙ new_is

pub returns-clause-tree : goal.returns-clause-tree
returns-clause-tree g c threshold tree =
    let shop = c.args.instance.now in
    let nodes = c.args.self.now.nodes.items in
    let packs = c.args.self.now.packs.items in
    let child = c.make_child.ensures.0 in
    let are = list-is g (goal.at.returns-clause-tree g c).After-make_child in
    record {
      limit = tree.limit;
      capped = tree.capped;
      opener = tree.opener;
      packs = tree.packs;
      nodes = λ place none low.
          subst (λ ns. HasRoomToOpen shop (length packs) (slice_index_or ns place none)) (sym are)
          (each-set (λ _ node. HasRoomToOpen shop (length packs) node) nodes c.args.to child c.requires.room
          (c.make_child.ensures.2 shop (length packs) none
          (subst (λ ns. HasRoomToOpen shop (length packs) (slice_index_or ns c.args.to none))
          (sym c.as_mut_slice.ensures.value) (tree.nodes c.args.to none c.requires.room)))
          tree.nodes place none (omega (arith, low, ap length are)));
    }

pub returns-clause-size : goal.returns-clause-size
returns-clause-size g c =
    ap length (list-is g (goal.at.returns-clause-size g c).After-make_child)
    ∙ length-set c.args.self.now.nodes.items c.args.to c.make_child.ensures.0

pub returns-clause-above : goal.returns-clause-above
returns-clause-above g c =
    ap (take c.args.to) (list-is g (goal.at.returns-clause-above g c).After-make_child)
    ∙ take-set c.args.self.now.nodes.items c.args.to c.make_child.ensures.0

pub returns-clause-child : goal.returns-clause-child
returns-clause-child g c threshold first last none tree is =
    let shop = c.args.instance.now in
    let nodes = c.args.self.now.nodes.items in
    let packs = c.args.self.now.packs.items in
    let pack = c.index.result.now in
    let put = c.args.put in
    let child = c.make_child.ensures.0 in
    let value = c.as_mut_slice.ensures.value in
    let low : c.args.groups - 1 < length packs = omega (arith, c.requires.some, c.requires.few) in
    let named = slice_index (slice_index_or packs (c.args.groups - 1) none).names.items put.place in
    let pack_is : (other : _) → pack ≡ slice_index_or packs (c.args.groups - 1) other =
    λ other. c.index.ensures ∙ get_or_default packs (c.args.groups - 1) pack other low in
    let opened = c.make_child.ensures.3 threshold first last child
    (subst (λ p. IsOpenNode g.V.Vector.list g.V.Vector.CAP g.V.Vector.WIDTH shop threshold first last p
    (slice_index_or c.as_mut_slice.result.now c.args.at child)) (sym (pack_is none))
    (subst (λ ns. IsOpenNode g.V.Vector.list g.V.Vector.CAP g.V.Vector.WIDTH shop threshold first last
    (slice_index_or packs (c.args.groups - 1) none) (slice_index_or ns c.args.at child)) (sym value)
    (is.is_open none child)))
    (subst (IsPack g.V.Vector.list g.V.Vector.CAP g.V.Vector.WIDTH shop) (sym (pack_is none)) (is.is_pack none))
    tree.opener tree.limit
    (ap (λ ns. mark (children_at put.end (slice_index_or ns c.args.at child)).below.words put.place) value
    ∙ c.requires.marked child) in
    let parent = slice_index_or nodes c.args.at child in
    let below = below-threshold g.V.Vector.list g.V.Vector.CAP g.V.Vector.WIDTH shop threshold put.end first last
    (slice_index_or packs (c.args.groups - 1) none).names.items parent.left (children_at put.end parent)
    (children-of g.V.Vector.list g.V.Vector.CAP g.V.Vector.WIDTH shop threshold put.end first last
    (slice_index_or packs (c.args.groups - 1) none) parent (is.is_open none child)) put.place
    (omega (arith, c.requires.place, c.requires.some, names-count shop packs (c.args.groups - 1) none tree.packs low))
    (c.requires.marked child) in
    subst (IsOpenAt g.V.Vector.list g.V.Vector.CAP g.V.Vector.WIDTH shop threshold (first_with put.end first named)
    (last_with put.end last named) c.args.groups c.args.to packs)
    (sym (list-is g (goal.at.returns-clause-child g c).After-make_child)) (record {
      below = below;
      is_pack = is.is_pack;
      is_open = λ other empty.
          subst (λ n. IsOpenNode g.V.Vector.list g.V.Vector.CAP g.V.Vector.WIDTH shop threshold
          (first_with put.end first named) (last_with put.end last named)
          (slice_index_or packs (c.args.groups - 1) other) n)
          (sym (get_or-set_same nodes c.args.to child empty c.requires.room))
          (subst (λ p. IsOpenNode g.V.Vector.list g.V.Vector.CAP g.V.Vector.WIDTH shop threshold
          (first_with put.end first named) (last_with put.end last named) p child) (pack_is other)
          (subst (λ p. IsOpenNode g.V.Vector.list g.V.Vector.CAP g.V.Vector.WIDTH shop threshold
          (first_with put.end first (slice_index p.names.items put.place))
          (last_with put.end last (slice_index p.names.items put.place)) pack child) (pack_is none) opened));
    })
