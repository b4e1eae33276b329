use Rattle.std.proofs.Common.{◌≡◌, ℕ, ◌+◌, List, length, ap, sym, ◌∙◌, subst, arith}
use Rattle.std.proofs.Math.Seq.{take-length}
use Rattle.flow_nodes.specs.Groups.{group_count}
use Rattle.flow_directions.specs.internal.Tree.{IsOpenAt}
use Rattle.flow_directions.proofs.TreeSteps.{open-kept}
use Rattle.flow_directions.proofs.tree.Tree.settle.Given.{Over}
use Rattle.flow_directions.proofs.tree.Tree.settle.Goals as goal
use Rattle.flow_directions.proofs.tree.Tree.settle.Goals.{After-group_count}

-- once there is memory for it, the node still stands there
grown : (g : Over) (c : After-group_count g) (threshold : ℕ) (first last : List ℕ) →
    IsOpenAt g.V.Vector.list g.V.Vector.CAP g.V.Vector.WIDTH c.args.instance.now threshold first last
    (group_count (c.args.left + 1)) c.args.spot.at c.args.self.now.packs.items c.args.self.now.nodes.items →
    IsOpenAt g.V.Vector.list g.V.Vector.CAP g.V.Vector.WIDTH c.args.instance.now threshold first last
    (c.group_count.result + 1) c.args.spot.at c.grow.new.self.packs.items c.grow.new.self.nodes.items
grown g c threshold first last is =
    let packs = c.args.self.now.packs.items in
    let nodes = c.args.self.now.nodes.items in
    let more : group_count (c.args.left + 1) ≡ c.group_count.result + 1 =
    omega (arith, c.group_count.ensures, c.if-spare-ne0.false, c.requires.some) in
    open-kept g.V.Vector.list g.V.Vector.CAP g.V.Vector.WIDTH c.args.instance.now threshold first last
    (c.group_count.result + 1) c.args.spot.at (length nodes) packs c.grow.new.self.packs.items nodes
    c.grow.new.self.nodes.items (ap (λ ps. ps.items) c.grow.ensures.packs)
    (c.grow.ensures.begin ∙ sym (take-length nodes))
    (omega (arith, c.requires.order, c.requires.room))
    (subst (λ n. IsOpenAt g.V.Vector.list g.V.Vector.CAP g.V.Vector.WIDTH c.args.instance.now threshold first last n
    c.args.spot.at packs nodes) more is)

pub repack-requires-clause-at : goal.repack-requires-clause-at
repack-requires-clause-at g c =
    let at = c.requires.at in (
      at.0,
      at.1,
      at.2,
      c.grow.ensures.tree at.0 at.3,
      grown g (goal.at.repack-requires-clause-at g c).After-group_count at.0 at.1 at.2 at.4,
      omega (arith, at.5, c.group_count.ensures, c.if-spare-ne0.false),
    )

pub returns-then-spare-ne0-clause-node : goal.returns-then-spare-ne0-clause-node
returns-then-spare-ne0-clause-node g c threshold first last tree is count =
    let same : group_count (c.args.left + 1) ≡ group_count c.args.left =
    omega (arith, c.if-spare-ne0.true) in
    subst (λ n. IsOpenAt g.V.Vector.list g.V.Vector.CAP g.V.Vector.WIDTH c.args.instance.now threshold first last n
    c.args.spot.at c.args.self.now.packs.items c.args.self.now.nodes.items) same is

pub returns-clause-node : goal.returns-clause-node
returns-clause-node g c threshold first last tree is count =
    subst (λ n. IsOpenAt g.V.Vector.list g.V.Vector.CAP g.V.Vector.WIDTH c.args.instance.now threshold first last n
    c.args.spot.top c.repack.new.self.packs.items c.repack.new.self.nodes.items) c.group_count.ensures
    (c.repack.ensures.node threshold first last (c.grow.ensures.tree threshold tree)
    (grown g (goal.at.returns-clause-node g c).After-group_count threshold first last is)
    (omega (arith, count, c.group_count.ensures, c.if-spare-ne0.false)))
