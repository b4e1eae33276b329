use Rattle.std.proofs.Common.{◌≡◌, ◌-◌, ℕ, List, length, nat_lt, nat_le, ap, sym, ◌∙◌}
use Rattle.std.proofs.Common.{subst, arith}
use Rattle.flow_shop.specs.declared.end.End.TheVariants.{Front, Back}
use Rattle.flow_shop.proofs.Lists.{some-of}
use Rattle.flow_nodes.specs.Packs.{IsPack}
use Rattle.flow_nodes.specs.PlainEnd.{plain_end_by}
use Rattle.flow_directions.specs.Search.{bound_sum, count_below}
use Rattle.flow_nodes.specs.Open.{HasRoomToOpen, IsOpenNode}
use Rattle.flow_nodes.proofs.SpreadSteps.{node-small-bound}
use Rattle.flow_directions.specs.internal.Tree.{IsOpenAt}
use Rattle.flow_directions.proofs.TreeSteps.{open-read, room-fewer}
use Rattle.flow_directions.proofs.EndTaken.{fewer-is, as-many}
use Rattle.flow_directions.proofs.tree.Tree.plain_end.Given.{Over}
use Rattle.flow_directions.proofs.tree.Tree.plain_end.Goals as goal
use Rattle.flow_directions.proofs.tree.Tree.plain_end.Goals.{After-index-open, After-index-pack}

-- the node, as it is read
abbrev IsThere : (g : Over) → After-index-open g → ℕ → List ℕ → List ℕ → Type 0
IsThere g c threshold first last =
    IsOpenAt g.V.Vector.list g.V.Vector.CAP g.V.Vector.WIDTH c.args.instance.now threshold first last c.args.groups c.args.at
    c.args.self.now.packs.items c.args.self.now.nodes.items

read-is : (g : Over) (c : After-index-pack g) (threshold : ℕ) (first last : List ℕ) →
    IsThere g (goal.at.After-index-pack g c).After-index-open threshold first last →
    IsOpenNode g.V.Vector.list g.V.Vector.CAP g.V.Vector.WIDTH c.args.instance.now threshold first last
    c.index-pack.result.now c.index-open.result.now
read-is g c threshold first last is =
    open-read g.V.Vector.list g.V.Vector.CAP g.V.Vector.WIDTH c.args.instance.now threshold first last c.args.groups c.args.at
    c.args.self.now.packs.items c.args.self.now.nodes.items c.index-pack.result.now c.index-open.result.now
    c.index-pack.ensures c.index-open.ensures is

pack-is : (g : Over) (c : After-index-pack g) (threshold : ℕ) (first last : List ℕ) →
    IsThere g (goal.at.After-index-pack g c).After-index-open threshold first last →
    IsPack g.V.Vector.list g.V.Vector.CAP g.V.Vector.WIDTH c.args.instance.now c.index-pack.result.now
pack-is g c threshold first last is =
    subst (IsPack g.V.Vector.list g.V.Vector.CAP g.V.Vector.WIDTH c.args.instance.now) (sym c.index-pack.ensures)
    (is.is_pack c.index-pack.result.now)

-- memory for the groups of the pack
room-is : (g : Over) (c : After-index-pack g) →
    HasRoomToOpen c.args.instance.now (length c.index-pack.result.now.groups.items) c.index-open.result.now
room-is g c =
    let shop = c.args.instance.now in
    let packs = c.args.self.now.packs.items in
    let pack = c.index-pack.result.now in
    let node = c.index-open.result.now in
    let tree = c.requires.at.3 in
    room-fewer shop (length pack.groups.items) (length packs) node (omega (
      arith,
      c.requires.some,
      c.requires.few,
      ap (λ p. length p.groups.items) c.index-pack.ensures,
      tree.packs.groups (c.args.groups - 1) pack (omega (arith, c.requires.some, c.requires.few)),
    ))
    (subst (HasRoomToOpen shop (length packs)) (sym c.index-open.ensures)
    (tree.nodes c.args.at node c.requires.within))

pub sum_of_bounds-front-requires-clause-room : goal.sum_of_bounds-front-requires-clause-room
sum_of_bounds-front-requires-clause-room g c = room-is g (goal.at.sum_of_bounds-front-requires-clause-room g c).After-index-pack

pub sum_of_bounds-front-requires-clause-at : goal.sum_of_bounds-front-requires-clause-at
sum_of_bounds-front-requires-clause-at g c =
    let here = (goal.at.sum_of_bounds-front-requires-clause-at g c).After-index-pack in
    let at = c.requires.at in
    let opened = read-is g here at.0 at.1 at.2 at.4 in
    let bound = node-small-bound c.args.instance.now at.1 at.2 c.index-open.result.now.node opened.is_node in (
      at.0,
      at.1,
      at.2,
      opened,
      omega (arith, at.4.below, at.3.capped, bound),
      pack-is g here at.0 at.1 at.2 at.4,
    )

pub sum_of_bounds-back-requires-clause-room : goal.sum_of_bounds-back-requires-clause-room
sum_of_bounds-back-requires-clause-room g c = room-is g (goal.at.sum_of_bounds-back-requires-clause-room g c).After-index-pack

pub sum_of_bounds-back-requires-clause-at : goal.sum_of_bounds-back-requires-clause-at
sum_of_bounds-back-requires-clause-at g c =
    let here = (goal.at.sum_of_bounds-back-requires-clause-at g c).After-index-pack in
    let at = c.requires.at in
    let opened = read-is g here at.0 at.1 at.2 at.4 in
    let bound = node-small-bound c.args.instance.now at.1 at.2 c.index-open.result.now.node opened.is_node in (
      at.0,
      at.1,
      at.2,
      opened,
      omega (arith, at.4.below, at.3.capped, bound),
      pack-is g here at.0 at.1 at.2 at.4,
    )

-- the plain rule by the counts of the node is that by the counts of its children
counts-are : (g : Over) (c : After-index-open g) (threshold : ℕ) (first last : List ℕ) (front_sum back_sum : ℕ) →
    IsThere g c threshold first last →
    plain_end_by c.index-open.result.now.front.count c.index-open.result.now.back.count front_sum back_sum
    ≡ plain_end_by (count_below c.args.instance.now threshold Front first last)
    (count_below c.args.instance.now threshold Back first last) front_sum back_sum
counts-are g c threshold first last front_sum back_sum is =
    let shop = c.args.instance.now in
    let node = c.index-open.result.now in
    let none = some-of c.args.self.now.packs.items (omega (arith, c.requires.some, c.requires.few)) in
    let there = is.is_open none node in
    ap (λ n. plain_end_by n node.back.count front_sum back_sum)
    (ap (λ n. n.front.count) c.index-open.ensures ∙ there.at_front.count)
    ∙ ap (λ n. plain_end_by (count_below shop threshold Front first last) n front_sum back_sum)
    (ap (λ n. n.back.count) c.index-open.ensures ∙ there.at_back.count)

pub returns-in-Some : goal.returns-in-Some
returns-in-Some g c threshold first last is =
    let here = (goal.at.returns-in-Some g c).After-index-open in
    let shop = c.args.instance.now in
    let node = c.index-open.result.now in
    let front_sum = bound_sum shop Front first last in
    let back_sum = bound_sum shop Back first last in
    fewer-is (nat_lt node.front.count node.back.count) (nat_lt node.back.count node.front.count)
    (nat_le back_sum front_sum) _ (sym c.fewer_below.ensures ∙ c.in-Some.is)
    ∙ counts-are g here threshold first last front_sum back_sum is

pub returns-in-None : goal.returns-in-None
returns-in-None g c threshold first last is =
    let here = (goal.at.returns-in-None g c).After-index-open in
    let there = (goal.at.returns-in-None g c).After-index-pack in
    let shop = c.args.instance.now in
    let node = c.index-open.result.now in
    let opened = read-is g there threshold first last is in
    let front = c.sum_of_bounds-front.ensures threshold first last opened (pack-is g there threshold first last is) in
    let back = c.sum_of_bounds-back.ensures threshold first last opened (pack-is g there threshold first last is) in
    c.greater_sum.ensures
    ∙ as-many (nat_lt node.front.count node.back.count) (nat_lt node.back.count node.front.count)
    (nat_le c.sum_of_bounds-back.result c.sum_of_bounds-front.result) (sym c.fewer_below.ensures ∙ c.in-None.is)
    ∙ counts-are g here threshold first last c.sum_of_bounds-front.result c.sum_of_bounds-back.result is
    ∙ ap (λ n. plain_end_by (count_below shop threshold Front first last) (count_below shop threshold Back first last) n
    c.sum_of_bounds-back.result) front
    ∙ ap (plain_end_by (count_below shop threshold Front first last) (count_below shop threshold Back first last)
    (bound_sum shop Front first last)) back
