use Rattle.std.proofs.Common.{◌≡◌, ℕ, ◌-◌, ◌*◌, List, ◌++◌, length, slice_index_or}
use Rattle.std.proofs.Common.{ap, sym, ◌∙◌, arith}
use Rattle.std.proofs.lemmas.Option.{none-some}
use Rattle.flow_shop.specs.declared.end.End.{End}
use Rattle.flow_shop.specs.Sequences.{jobs_left}
use Rattle.flow_shop.proofs.Lists.{some-of}
use Rattle.flow_nodes.specs.Marks.{chosen}
use Rattle.flow_directions.specs.Search.{count_below, looks_ahead, other}
use Rattle.flow_nodes.specs.Open.{children_at}
use Rattle.flow_directions.specs.internal.Tree.{IsOpenAt}
use Rattle.flow_directions.proofs.EndTaken.{close-is, plain-far}
use Rattle.flow_directions.proofs.TreeSteps.{children-of, grown-kept, names-count}
use Rattle.flow_directions.proofs.tree.Tree.choose.Given.{Over}
use Rattle.flow_directions.proofs.tree.Tree.choose.Goals as goal
use Rattle.flow_directions.proofs.tree.Tree.choose.Goals.{After-index-open, After-looks_ahead}

-- the node of these lists
abbrev IsThere : (g : Over) → After-index-open g → ℕ → List ℕ → List ℕ → Type 0
IsThere g c threshold first last =
    IsOpenAt g.V.Vector.list g.V.Vector.CAP g.V.Vector.WIDTH c.args.instance.now threshold first last c.args.groups c.args.at
    c.args.self.now.packs.items c.args.self.now.nodes.items

-- how many children it has at an end
count-is : (g : Over) (c : After-index-open g) (threshold : ℕ) (first last : List ℕ) (end : End) →
    IsThere g c threshold first last →
    (children_at end c.index-open.result.now).count ≡ count_below c.args.instance.now threshold end first last
count-is g c threshold first last end is =
    let none = some-of c.args.self.now.packs.items (omega (arith, c.requires.some, c.requires.few)) in
    let node = c.index-open.result.now in
    ap (λ n. (children_at end n).count) c.index-open.ensures
    ∙ (children-of g.V.Vector.list g.V.Vector.CAP g.V.Vector.WIDTH c.args.instance.now threshold end first last
    (slice_index_or c.args.self.now.packs.items (c.args.groups - 1) none)
    (slice_index_or c.args.self.now.nodes.items c.args.at node) (is.is_open none node)).count

-- whether it looks ahead
ahead-is : (g : Over) (c : After-looks_ahead g) (threshold : ℕ) (first last : List ℕ) →
    IsThere g (goal.at.After-looks_ahead g c).After-index-open threshold first last →
    c.looks_ahead.result ≡ looks_ahead c.args.instance.now threshold first last
ahead-is g c threshold first last is =
    let here = (goal.at.After-looks_ahead g c).After-index-open in
    let shop = c.args.instance.now in
    let packs = c.args.self.now.packs.items in
    let node = c.index-open.result.now in
    let plain = c.plain_end-plain.result in
    let none = some-of packs (omega (arith, c.requires.some, c.requires.few)) in
    let names = (slice_index_or packs (c.args.groups - 1) none).names.items in
    let size : length names ≡ c.args.groups * 16 = omega (
      arith,
      c.requires.some,
      names-count shop packs (c.args.groups - 1) none c.requires.at.3.packs
          (omega (arith, c.requires.some, c.requires.few)),
    ) in
    let left : c.count.result ≡ length (jobs_left shop.jobs (first ++ last)) =
    c.count.ensures names size
    ∙ ap length (ap (λ n. chosen n.left.words names) c.index-open.ensures ∙ (is.is_open none node).has_left) in
    c.looks_ahead.ensures
    ∙ close-is shop threshold first last plain c.other_end.result (c.plain_end-plain.ensures threshold first last is)
    (c.other_end.ensures ∙ ap other (c.plain_end-plain.ensures threshold first last is)) c.at.result.now.count
    c.at-2.result.now.count c.count.result
    (ap (λ children. children.count) c.at.ensures ∙ count-is g here threshold first last plain is)
    (ap (λ children. children.count) c.at-2.ensures ∙ count-is g here threshold first last c.other_end.result is) left

pub look_ahead-requires-clause-at : goal.look_ahead-requires-clause-at
look_ahead-requires-clause-at g c =
    let at = c.requires.at in
    (at.0, at.1, at.2, at.3, at.4)

pub returns-then-looks_ahead-clause-end : goal.returns-then-looks_ahead-clause-end
returns-then-looks_ahead-clause-end g c threshold first last tree is =
    let here = (goal.at.returns-then-looks_ahead-clause-end g c).After-looks_ahead in
    c.look_ahead.ensures.end threshold first last tree is (c.plain_end-plain.ensures threshold first last is)
    (sym (ahead-is g here threshold first last is) ∙ c.if-looks_ahead.true)

pub returns-then-looks_ahead-clause-kept : goal.returns-then-looks_ahead-clause-kept
returns-then-looks_ahead-clause-kept g c threshold first last tree is =
    c.look_ahead.ensures.kept threshold first last tree is

pub returns-clause-tree : goal.returns-clause-tree
returns-clause-tree g c threshold tree = c.grow.ensures.tree threshold tree

pub returns-clause-packs : goal.returns-clause-packs
returns-clause-packs g c = c.grow.ensures.packs

pub returns-clause-above : goal.returns-clause-above
returns-clause-above g c =
    grown-kept c.args.self.now.nodes.items c.grow.new.self.nodes.items c.args.top c.requires.room c.grow.ensures.begin

pub returns-clause-top : goal.returns-clause-top
returns-clause-top g c = omega arith

pub returns-clause-room : goal.returns-clause-room
returns-clause-room g c = omega (arith, c.in_ok-grow.ensures.size)

pub returns-clause-end : goal.returns-clause-end
returns-clause-end g c threshold first last tree is =
    let here = (goal.at.returns-clause-end g c).After-looks_ahead in
    plain-far c.args.instance.now threshold first last c.plain_end-plain.result c.other_end.result
    (c.plain_end-plain.ensures threshold first last is)
    (c.other_end.ensures ∙ ap other (c.plain_end-plain.ensures threshold first last is))
    (sym (ahead-is g here threshold first last is) ∙ c.if-looks_ahead.false)

pub returns-clause-from : goal.returns-clause-from
returns-clause-from g c from kept = absurd (none-some from kept)

pub returns-clause-small : goal.returns-clause-small
returns-clause-small g c from kept = absurd (none-some from kept)

pub returns-clause-kept : goal.returns-clause-kept
returns-clause-kept g c threshold first last tree is from kept = absurd (none-some from kept)
