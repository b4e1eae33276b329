use Rattle.std.proofs.Common.{◌≡◌, ℕ, ◌+◌, ◌-◌, ◌<◌, List, [], ◌∷◌, ◌++◌, length, set, slice_index_or, ap, sym, ◌∙◌}
use Rattle.std.proofs.Common.{subst, arith}
use Rattle.std.proofs.lemmas.List.{get_or-set_same, length-set}
use Rattle.flow_shop.specs.Sequences.{jobs_left}
use Rattle.flow_nodes.specs.Groups.{group_count}
use Rattle.flow_nodes.specs.Marks.{chosen}
use Rattle.flow_nodes.specs.Packs.{IsPack}
use Rattle.flow_nodes.specs.Open.{HasRoomToOpen, IsOpenNode}
use Rattle.flow_directions.specs.internal.Start.{IsStart}
use Rattle.flow_directions.specs.internal.Tree.{IsTree}
use Rattle.flow_directions.proofs.TreeSteps.{each-push, packs-set}
use Rattle.flow_directions.proofs.start.StartNode.open.Given.{Over}
use Rattle.flow_directions.proofs.start.StartNode.open.Goals as goal
use Rattle.flow_directions.proofs.start.StartNode.open.Goals.{After-pack, After-index}

-- the last pack
inside : (g : Over) (c : After-pack g) → c.group_count-groups.result - 1 < length c.args.tree.now.packs.items
inside g c = omega (arith, c.group_count-groups.ensures, c.requires.packs, c.requires.some)

-- how many groups it has
groups : (g : Over) (c : After-pack g) (threshold : ℕ) → IsTree g.V.Vector.CAP c.args.instance.now threshold c.args.tree.now →
    length c.pack.new.pack.groups.items ≡ c.group_count-groups.result - 1 + 1
groups g c threshold tree =
    let old = c.index_mut.result.now in
    c.pack.ensures.count
    ∙ ap (λ p. length p.groups.items) c.index_mut.ensures.value
    ∙ tree.packs.groups (c.group_count-groups.result - 1) old (inside g c)

-- it is that which the node is opened by
pack-is : (g : Over) (c : After-index g) → c.index.result.now ≡ c.pack.new.pack
pack-is g c =
    c.index.ensures
    ∙ get_or-set_same c.args.tree.now.packs.items (c.group_count-groups.result - 1) c.pack.new.pack c.index.result.now
    (inside g (goal.at.After-index g c).After-pack)

-- the marks of the jobs left
marks : (g : Over) (c : After-index g) (threshold : ℕ) (first last : List ℕ) →
    IsStart c.args.instance.now first last c.args.self.now →
    IsTree g.V.Vector.CAP c.args.instance.now threshold c.args.tree.now →
    chosen c.first-root.result.words c.index.result.now.names.items ≡ jobs_left c.args.instance.now.jobs (first ++ last)
marks g c threshold first last is tree =
    let pack = c.pack.new.pack in
    ap (λ p. chosen c.first-root.result.words p.names.items) (pack-is g c)
    ∙ c.first-root.ensures.begin pack.names.items
    (omega (
      arith,
      c.pack.ensures.pack.room.names,
      groups g (goal.at.After-index g c).After-pack threshold tree,
      c.group_count-groups.ensures,
      c.requires.some,
    ))
    ∙ c.pack.ensures.jobs first last is

packed : (g : Over) (c : After-index g) →
    IsPack g.V.Vector.list g.V.Vector.CAP g.V.Vector.WIDTH c.args.instance.now c.index.result.now
packed g c =
    subst (IsPack g.V.Vector.list g.V.Vector.CAP g.V.Vector.WIDTH c.args.instance.now) (sym (pack-is g c))
    c.pack.ensures.pack

-- memory for the node
room : (g : Over) (c : After-index g) (count : ℕ) → count ≡ c.group_count-groups.result →
    HasRoomToOpen c.args.instance.now count (record {
      node = c.args.self.now.node;
      left = c.first-root.result;
      front = c.in_ok-root.root.front;
      back = c.in_ok-root.root.back;
    })
room g c count same =
    let made = subst (λ n. HasRoomToOpen c.args.instance.now n c.in_ok-root.root) (sym same) c.in_ok-root.ensures in
    record {
      at_front = made.at_front;
      at_back = made.at_back;
      front_bounds = made.front_bounds;
      back_bounds = made.back_bounds;
    }

pub open-requires-clause-at : goal.open-requires-clause-at
open-requires-clause-at g c =
    let at = c.requires.at in
    let index = (goal.at.open-requires-clause-at g c).After-index in (
      c.args.instance.now,
      at.0,
      at.1,
      at.2,
      at.3.is_node,
      packed g index,
      at.5.opener,
      at.5.limit,
      at.4,
      marks g index at.0 at.1 at.2 at.3 at.5,
      room g index (length c.index.result.now.groups.items)
          (omega (
            arith,
            ap (λ p. length p.groups.items) (pack-is g index),
            groups g (goal.at.After-index g index).After-pack at.0 at.5,
            c.group_count-groups.ensures,
            c.requires.some,
          )),
    )

pub returns-clause-tree : goal.returns-clause-tree
returns-clause-tree g c threshold first last is low tree =
    let shop = c.args.instance.now in
    let index = (goal.at.returns-clause-tree g c).After-index in
    let after = (goal.at.After-index g index).After-pack in
    let packs = c.args.tree.now.packs.items in
    let nodes = c.args.tree.now.nodes.items in
    let at = c.group_count-groups.result - 1 in
    let node = c.open.new.node in
    let items = c.in_ok-push.ensures.items in
    let size : length (set packs at c.pack.new.pack) ≡ length packs = length-set packs at c.pack.new.pack in
    let count : length packs ≡ c.group_count-groups.result =
    omega (arith, c.requires.packs, c.group_count-groups.ensures) in
    record {
      limit = tree.limit;
      capped = tree.capped;
      opener = tree.opener;
      packs = packs-set shop packs at c.pack.new.pack (inside g after) c.pack.ensures.pack.room
          (groups g after threshold tree) tree.packs;
      nodes = λ place none within.
          subst (λ n. HasRoomToOpen shop n (slice_index_or c.push.new.self.items place none)) (sym size)
          (subst (λ ns. HasRoomToOpen shop (length packs) (slice_index_or ns place none)) (sym items)
          (each-push (λ _ n. HasRoomToOpen shop (length packs) n) nodes node
          (c.open.ensures.room shop (length packs) (room g index (length packs) count)) tree.nodes place none
          (omega (arith, within, ap length items))));
    }

pub returns-clause-at : goal.returns-clause-at
returns-clause-at g c threshold first last is low tree =
    let list = g.V.Vector.list in
    let cap = g.V.Vector.CAP in
    let width = g.V.Vector.WIDTH in
    let shop = c.args.instance.now in
    let index = (goal.at.returns-clause-at g c).After-index in
    let after = (goal.at.After-index g index).After-pack in
    let packs = c.args.tree.now.packs.items in
    let at = c.group_count-groups.result - 1 in
    let pack = c.pack.new.pack in
    let place : group_count c.args.self.now.left - 1 ≡ at = omega (arith, c.group_count-groups.ensures) in
    let items : c.push.new.self.items ≡ c.open.new.node ∷ [] =
    c.in_ok-push.ensures.items ∙ ap (λ ns. ns ++ c.open.new.node ∷ []) c.requires.nodes in
    let stood : (none : _) → slice_index_or (set packs at pack) (group_count c.args.self.now.left - 1) none ≡ pack =
    λ none. ap (λ p. slice_index_or (set packs at pack) p none) place
    ∙ get_or-set_same packs at pack none (inside g after) in
    let opened : IsOpenNode list cap width shop threshold first last pack c.open.new.node =
    subst (λ p. IsOpenNode list cap width shop threshold first last p c.open.new.node) (pack-is g index)
    (c.open.ensures.node shop threshold first last tree.limit is.is_node (packed g index)
    (marks g index threshold first last is tree)) in
    record {
      is_open = record {
        below = low;
        is_pack = λ none. subst (IsPack list cap width shop) (sym (stood none)) c.pack.ensures.pack;
        is_open = λ none empty.
            subst (λ p. IsOpenNode list cap width shop threshold first last p (slice_index_or c.push.new.self.items 0
            empty))
            (sym (stood none))
            (subst (λ ns. IsOpenNode list cap width shop threshold first last pack (slice_index_or ns 0 empty)) (sym items)
            opened);
      };
      has_lists = is.has_lists;
      count = sym is.left;
    }
