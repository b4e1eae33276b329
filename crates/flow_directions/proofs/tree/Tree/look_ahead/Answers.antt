use Rattle.std.proofs.Common.{◌≡◌, ℕ, ◌+◌, ◌-◌, ◌<◌, ◌≤◌, true, cond, List, length, slice_index_or, take, ap, sym, ◌∙◌}
use Rattle.std.proofs.Common.{subst, arith}
use Rattle.flow_shop.proofs.Lists.{some-of}
use Rattle.flow_nodes.specs.Packs.{left_below}
use Rattle.flow_directions.specs.Search.{other}
use Rattle.flow_nodes.specs.Open.{children_at}
use Rattle.flow_directions.specs.internal.Tree.{AreKept, IsOpenAt}
use Rattle.flow_directions.proofs.EndTaken.{other-lighter, plain-kept}
use Rattle.flow_directions.proofs.TreeSteps.{children-kept, children-of, fewer-kept, grown-kept, open-kept, place-is}
use Rattle.flow_directions.proofs.tree.Tree.look_ahead.Given.{Over}
use Rattle.flow_directions.proofs.tree.Tree.look_ahead.Goals as goal
use Rattle.flow_directions.proofs.tree.Tree.look_ahead.Goals.{Start, After-at-2, After-count_kept-2, In_ok-grow}
use Rattle.flow_directions.proofs.tree.Tree.look_ahead.Goals.{After-weigh-weight, After-weigh}

-- the node of these lists, at the beginning
abbrev IsThere : (g : Over) → Start g → ℕ → List ℕ → List ℕ → Type 0
IsThere g c threshold first last =
    IsOpenAt g.V.Vector.list g.V.Vector.CAP g.V.Vector.WIDTH c.args.instance.now threshold first last c.args.groups c.args.at
    c.args.self.now.packs.items c.args.self.now.nodes.items

-- how many children it has at each end
plain-count : (g : Over) (c : After-at-2 g) (threshold : ℕ) (first last : List ℕ) →
    IsThere g (goal.at.After-at-2 g c).Start threshold first last →
    c.at.result.now.count ≡ length (left_below c.args.instance.now threshold c.args.plain first last)
plain-count g c threshold first last is =
    let none = some-of c.args.self.now.packs.items (omega (arith, c.requires.some, c.requires.few)) in
    let node = c.index.result.now in
    ap (λ children. children.count) (c.at.ensures ∙ ap (children_at c.args.plain) c.index.ensures)
    ∙ (children-of g.V.Vector.list g.V.Vector.CAP g.V.Vector.WIDTH c.args.instance.now threshold c.args.plain first last
    (slice_index_or c.args.self.now.packs.items (c.args.groups - 1) none)
    (slice_index_or c.args.self.now.nodes.items c.args.at node) (is.is_open none node)).count

other-count : (g : Over) (c : After-at-2 g) (threshold : ℕ) (first last : List ℕ) →
    IsThere g (goal.at.After-at-2 g c).Start threshold first last →
    c.at-2.result.now.count ≡ length (left_below c.args.instance.now threshold c.other_end-other.result first last)
other-count g c threshold first last is =
    let none = some-of c.args.self.now.packs.items (omega (arith, c.requires.some, c.requires.few)) in
    let node = c.index-2.result.now in
    ap (λ children. children.count) (c.at-2.ensures ∙ ap (children_at c.other_end-other.result) c.index-2.ensures)
    ∙ (children-of g.V.Vector.list g.V.Vector.CAP g.V.Vector.WIDTH c.args.instance.now threshold c.other_end-other.result
    first last (slice_index_or c.args.self.now.packs.items (c.args.groups - 1) none)
    (slice_index_or c.args.self.now.nodes.items c.args.at node) (is.is_open none node)).count

-- how many are kept
plain-kept-count : (g : Over) (c : After-count_kept-2 g) → c.has_room-keeps.result ≡ true →
    c.count_kept.result ≡ c.at.result.now.count
plain-kept-count g c keeps = c.count_kept.ensures ∙ ap (λ b. cond b c.at.result.now.count 0) keeps

other-kept-count : (g : Over) (c : After-count_kept-2 g) → c.has_room-keeps.result ≡ true →
    c.count_kept-2.result ≡ c.at-2.result.now.count
other-kept-count g c keeps = c.count_kept-2.ensures ∙ ap (λ b. cond b c.at-2.result.now.count 0) keeps

-- the node is still there once the list has grown
grown-is : (g : Over) (c : In_ok-grow g) (threshold : ℕ) (first last : List ℕ) →
    IsThere g (goal.at.In_ok-grow g c).Start threshold first last →
    IsOpenAt g.V.Vector.list g.V.Vector.CAP g.V.Vector.WIDTH c.args.instance.now threshold first last c.args.groups c.args.at
    c.grow.new.self.packs.items c.grow.new.self.nodes.items
grown-is g c threshold first last is =
    open-kept g.V.Vector.list g.V.Vector.CAP g.V.Vector.WIDTH c.args.instance.now threshold first last c.args.groups c.args.at
    c.args.top c.args.self.now.packs.items c.grow.new.self.packs.items c.args.self.now.nodes.items
    c.grow.new.self.nodes.items (ap (λ v. v.items) c.grow.ensures.packs)
    (grown-kept c.args.self.now.nodes.items c.grow.new.self.nodes.items c.args.top c.requires.room c.grow.ensures.begin)
    c.requires.order is

pub weigh-weight-requires-clause-kept : goal.weigh-weight-requires-clause-kept
weigh-weight-requires-clause-kept g c empty keeps =
    let here = goal.at.weigh-weight-requires-clause-kept g c in
    let at = c.requires.at in
    let none = some-of c.args.self.now.packs.items (omega (arith, c.requires.some, c.requires.few)) in
    let grown = grown-is g here.In_ok-grow at.0 at.1 at.2 at.4 in
    omega (
      arith,
      plain-count g here.After-at-2 at.0 at.1 at.2 at.4,
      plain-kept-count g here.After-count_kept-2 keeps,
      (children-of g.V.Vector.list g.V.Vector.CAP g.V.Vector.WIDTH c.args.instance.now at.0 c.args.plain at.1 at.2
          (slice_index_or c.grow.new.self.packs.items (c.args.groups - 1) none)
          (slice_index_or c.grow.new.self.nodes.items c.args.at empty) (grown.is_open none empty)).count,
      c.in_ok-grow.ensures.size,
    )

pub weigh-weight-requires-clause-at : goal.weigh-weight-requires-clause-at
weigh-weight-requires-clause-at g c =
    let at = c.requires.at in (
      at.0,
      at.1,
      at.2,
      c.grow.ensures.tree at.0 at.3,
      grown-is g (goal.at.weigh-weight-requires-clause-at g c).In_ok-grow at.0 at.1 at.2 at.4,
    )

-- and once the children at the plain rule's end are made
weighed-is : (g : Over) (c : After-weigh-weight g) (threshold : ℕ) (first last : List ℕ) →
    IsThere g (goal.at.After-weigh-weight g c).Start threshold first last →
    IsOpenAt g.V.Vector.list g.V.Vector.CAP g.V.Vector.WIDTH c.args.instance.now threshold first last c.args.groups c.args.at
    c.weigh-weight.new.self.packs.items c.weigh-weight.new.self.nodes.items
weighed-is g c threshold first last is =
    open-kept g.V.Vector.list g.V.Vector.CAP g.V.Vector.WIDTH c.args.instance.now threshold first last c.args.groups c.args.at
    c.args.top c.grow.new.self.packs.items c.weigh-weight.new.self.packs.items c.grow.new.self.nodes.items
    c.weigh-weight.new.self.nodes.items (ap (λ v. v.items) c.weigh-weight.ensures.packs) c.weigh-weight.ensures.above
    c.requires.order (grown-is g (goal.at.After-weigh-weight g c).In_ok-grow threshold first last is)

pub weigh-requires-clause-kept : goal.weigh-requires-clause-kept
weigh-requires-clause-kept g c empty keeps =
    let here = goal.at.weigh-requires-clause-kept g c in
    let at = c.requires.at in
    let none = some-of c.args.self.now.packs.items (omega (arith, c.requires.some, c.requires.few)) in
    let weighed = weighed-is g here.After-weigh-weight at.0 at.1 at.2 at.4 in
    omega (
      arith,
      other-count g here.After-at-2 at.0 at.1 at.2 at.4,
      other-kept-count g here.After-count_kept-2 keeps,
      (children-of g.V.Vector.list g.V.Vector.CAP g.V.Vector.WIDTH c.args.instance.now at.0 c.other_end-other.result at.1
          at.2 (slice_index_or c.weigh-weight.new.self.packs.items (c.args.groups - 1) none)
          (slice_index_or c.weigh-weight.new.self.nodes.items c.args.at empty) (weighed.is_open none empty)).count,
      c.in_ok-grow.ensures.size,
      c.weigh-weight.ensures.size,
    )

pub weigh-requires-clause-at : goal.weigh-requires-clause-at
weigh-requires-clause-at g c =
    let at = c.requires.at in (
      at.0,
      at.1,
      at.2,
      c.weigh-weight.ensures.tree at.0 (c.grow.ensures.tree at.0 at.3),
      weighed-is g (goal.at.weigh-requires-clause-at g c).After-weigh-weight at.0 at.1 at.2 at.4,
    )

-- the first nodes stay
above-is : (g : Over) (c : After-weigh g) →
    take c.args.top c.weigh.new.self.nodes.items ≡ take c.args.top c.args.self.now.nodes.items
above-is g c =
    fewer-kept c.weigh-weight.new.self.nodes.items c.weigh.new.self.nodes.items c.args.top
    (c.args.top + c.count_kept.result) (omega arith) c.weigh.ensures.above
    ∙ c.weigh-weight.ensures.above
    ∙ grown-kept c.args.self.now.nodes.items c.grow.new.self.nodes.items c.args.top c.requires.room c.grow.ensures.begin

-- the weight of the plain rule's end
plain-weight : (g : Over) (c : After-weigh-weight g) → c.weigh-weight.result < 4294967295
plain-weight g c = omega (arith, c.weigh-weight.ensures.small)

pub returns-then-weigh-weight-clause-tree : goal.returns-then-weigh-weight-clause-tree
returns-then-weigh-weight-clause-tree g c threshold tree =
    c.weigh.ensures.tree threshold (c.weigh-weight.ensures.tree threshold (c.grow.ensures.tree threshold tree))

pub returns-then-weigh-weight-clause-packs : goal.returns-then-weigh-weight-clause-packs
returns-then-weigh-weight-clause-packs g c =
    c.weigh.ensures.packs ∙ c.weigh-weight.ensures.packs ∙ c.grow.ensures.packs

pub returns-then-weigh-weight-clause-above : goal.returns-then-weigh-weight-clause-above
returns-then-weigh-weight-clause-above g c =
    above-is g (goal.at.returns-then-weigh-weight-clause-above g c).After-weigh

pub returns-then-weigh-weight-clause-top : goal.returns-then-weigh-weight-clause-top
returns-then-weigh-weight-clause-top g c = omega arith

pub returns-then-weigh-weight-clause-room : goal.returns-then-weigh-weight-clause-room
returns-then-weigh-weight-clause-room g c =
    omega (arith, c.in_ok-grow.ensures.size, c.weigh-weight.ensures.size, c.weigh.ensures.size)

pub returns-then-weigh-weight-clause-end : goal.returns-then-weigh-weight-clause-end
returns-then-weigh-weight-clause-end g c threshold first last tree is plain_is ahead =
    let here = goal.at.returns-then-weigh-weight-clause-end g c in
    let grown = c.grow.ensures.tree threshold tree in
    other-lighter c.args.instance.now threshold first last c.args.plain c.other_end-other.result plain_is
    (c.other_end-other.ensures ∙ ap other plain_is) ahead
    (omega (
      arith,
      c.weigh-weight.ensures.exact threshold first last grown (grown-is g here.In_ok-grow threshold first last is)
          (plain-weight g here.After-weigh-weight),
      c.weigh.ensures.exact threshold first last (c.weigh-weight.ensures.tree threshold grown)
          (weighed-is g here.After-weigh-weight threshold first last is) c.if-weigh-weight.true,
      c.if-weigh-weight.true,
    ))

pub returns-then-weigh-weight-clause-from : goal.returns-then-weigh-weight-clause-from
returns-then-weigh-weight-clause-from g c from kept =
    let place = place-is c.has_room-keeps.result (c.args.top + c.count_kept.result) from
    (sym c.place_kept.ensures ∙ kept) in
    omega (arith, place.1)

pub place_kept-requires : goal.place_kept-requires
place_kept-requires g c keeps =
    let here = goal.at.place_kept-requires g c in
    omega (arith, c.has_room-keeps.ensures keeps, plain-kept-count g here.After-count_kept-2 keeps)

pub place_kept-requires-2 : goal.place_kept-requires-2
place_kept-requires-2 g c keeps = omega (arith, c.has_room-keeps.ensures keeps)

pub returns-then-weigh-weight-clause-small : goal.returns-then-weigh-weight-clause-small
returns-then-weigh-weight-clause-small g c from kept =
    let here = goal.at.returns-then-weigh-weight-clause-small g c in
    let place = place-is c.has_room-keeps.result (c.args.top + c.count_kept.result) from
    (sym c.place_kept.ensures ∙ kept) in
    omega (
      arith,
      c.has_room-keeps.ensures place.0,
      plain-kept-count g here.After-count_kept-2 place.0,
      other-kept-count g here.After-count_kept-2 place.0,
    )

pub returns-then-weigh-weight-clause-kept : goal.returns-then-weigh-weight-clause-kept
returns-then-weigh-weight-clause-kept g c threshold first last tree is from kept =
    let here = goal.at.returns-then-weigh-weight-clause-kept g c in
    let end = c.other_end-other.result in
    let place = place-is c.has_room-keeps.result (c.args.top + c.count_kept.result) from
    (sym c.place_kept.ensures ∙ kept) in
    let tree2 = c.weigh-weight.ensures.tree threshold (c.grow.ensures.tree threshold tree) in (
      omega (
        arith,
        place.1,
        other-count g here.After-at-2 threshold first last is,
        other-kept-count g here.After-count_kept-2 place.0,
      ),
      subst (λ p. AreKept g.V.Vector.list g.V.Vector.CAP g.V.Vector.WIDTH c.args.instance.now threshold end first last
          c.args.groups (left_below c.args.instance.now threshold end first last) p c.weigh.new.self.packs.items
          c.weigh.new.self.nodes.items) place.1
          (c.weigh.ensures.kept threshold first last tree2 (weighed-is g here.After-weigh-weight threshold first last is)
          place.0 c.if-weigh-weight.true),
    )

pub returns-clause-tree : goal.returns-clause-tree
returns-clause-tree g c threshold tree =
    c.weigh.ensures.tree threshold (c.weigh-weight.ensures.tree threshold (c.grow.ensures.tree threshold tree))

pub returns-clause-packs : goal.returns-clause-packs
returns-clause-packs g c = c.weigh.ensures.packs ∙ c.weigh-weight.ensures.packs ∙ c.grow.ensures.packs

pub returns-clause-above : goal.returns-clause-above
returns-clause-above g c = above-is g (goal.at.returns-clause-above g c).After-weigh

pub returns-clause-top : goal.returns-clause-top
returns-clause-top g c = omega arith

pub returns-clause-room : goal.returns-clause-room
returns-clause-room g c =
    omega (arith, c.in_ok-grow.ensures.size, c.weigh-weight.ensures.size, c.weigh.ensures.size)

pub returns-clause-end : goal.returns-clause-end
returns-clause-end g c threshold first last tree is plain_is ahead =
    let here = goal.at.returns-clause-end g c in
    let grown = c.grow.ensures.tree threshold tree in
    plain-kept c.args.instance.now threshold first last c.args.plain c.other_end-other.result plain_is
    (c.other_end-other.ensures ∙ ap other plain_is)
    (omega (
      arith,
      c.weigh-weight.ensures.exact threshold first last grown (grown-is g here.In_ok-grow threshold first last is)
          (plain-weight g here.After-weigh-weight),
      c.weigh.ensures.reaches threshold first last (c.weigh-weight.ensures.tree threshold grown)
          (weighed-is g here.After-weigh-weight threshold first last is) c.if-weigh-weight.false,
    ))

pub returns-clause-from : goal.returns-clause-from
returns-clause-from g c from kept =
    let place = place-is c.has_room-keeps.result c.args.top from (sym c.place_kept-2.ensures ∙ kept) in
    omega (arith, place.1)

pub returns-clause-small : goal.returns-clause-small
returns-clause-small g c from kept =
    let here = goal.at.returns-clause-small g c in
    let place = place-is c.has_room-keeps.result c.args.top from (sym c.place_kept-2.ensures ∙ kept) in
    omega (arith, c.has_room-keeps.ensures place.0, plain-kept-count g here.After-count_kept-2 place.0)

pub returns-clause-kept : goal.returns-clause-kept
returns-clause-kept g c threshold first last tree is from kept =
    let here = goal.at.returns-clause-kept g c in
    let shop = c.args.instance.now in
    let end = c.args.plain in
    let place = place-is c.has_room-keeps.result c.args.top from (sym c.place_kept-2.ensures ∙ kept) in
    let few : c.args.top + length (left_below shop threshold end first last) ≤ c.args.top + c.count_kept.result = omega (
      arith,
      plain-count g here.After-at-2 threshold first last is,
      plain-kept-count g here.After-count_kept-2 place.0,
    ) in (
      omega (arith, place.1, few),
      subst (λ p. AreKept g.V.Vector.list g.V.Vector.CAP g.V.Vector.WIDTH shop threshold end first last c.args.groups
          (left_below shop threshold end first last) p c.weigh.new.self.packs.items c.weigh.new.self.nodes.items) place.1
          (children-kept g.V.Vector.list g.V.Vector.CAP g.V.Vector.WIDTH shop threshold end first last c.args.groups
          (left_below shop threshold end first last) c.args.top (c.args.top + c.count_kept.result)
          c.weigh-weight.new.self.packs.items c.weigh.new.self.packs.items c.weigh-weight.new.self.nodes.items
          c.weigh.new.self.nodes.items (ap (λ v. v.items) c.weigh.ensures.packs) c.weigh.ensures.above few
          (c.weigh-weight.ensures.kept threshold first last (c.grow.ensures.tree threshold tree)
          (grown-is g here.In_ok-grow threshold first last is) place.0 (plain-weight g here.After-weigh-weight))),
    )
