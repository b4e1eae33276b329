use Rattle.std.proofs.Common.{◌≡◌, ℕ, ◌+◌, ◌-◌, ◌≤◌, List, ◌++◌, length, slice_index_or, take, ap, ◌∙◌}
use Rattle.std.proofs.Common.{arith}
use Rattle.flow_shop.specs.Sequences.{jobs_left}
use Rattle.flow_shop.specs.Directions.{first_with, last_with}
use Rattle.flow_nodes.specs.Groups.{group_count}
use Rattle.flow_directions.specs.internal.Levels.{IsLevel, IsNext}
use Rattle.flow_directions.specs.internal.Tree.{IsTree}
use Rattle.flow_directions.proofs.LevelMoves.{level-moved, next-count, on-ok}
use Rattle.flow_directions.proofs.TreeSteps.{fewer-kept}
use Rattle.flow_directions.proofs.tree.Tree.go.Given.{Over}
use Rattle.flow_directions.proofs.tree.Tree.go.Goals as goal
use Rattle.flow_directions.proofs.tree.Tree.go.Goals.{After-child-child, After-enter}

-- how many jobs are left at the child
count : (g : Over) (c : After-child-child g) (threshold : ℕ) (first last : List ℕ) →
    IsNext g.V.Vector.list g.V.Vector.CAP g.V.Vector.WIDTH c.args.instance.now threshold c.args.self.now.packs.items
    c.args.self.now.nodes.items (c.args.left + 1) first last c.args.place c.args.here.now →
    length (jobs_left c.args.instance.now.jobs (first_with c.args.here.now.end first c.args.here.now.job
    ++ last_with c.args.here.now.end last c.args.here.now.job)) ≡ c.args.left
count g c threshold first last next =
    next-count g.V.Vector.list g.V.Vector.CAP g.V.Vector.WIDTH c.args.instance.now threshold c.args.self.now.packs.items
    c.args.self.now.nodes.items c.args.left first last c.args.place c.args.here.now next

-- the nodes before the first free place stay
above : (g : Over) (c : After-enter g) →
    take c.args.here.now.top c.enter.new.self.nodes.items ≡ take c.args.here.now.top c.args.self.now.nodes.items
above g c =
    let nodes = c.args.self.now.nodes.items in
    let nodes2 = c.child-child.new.self.nodes.items in
    let nodes3 = c.settle.new.self.nodes.items in
    let nodes4 = c.enter.new.self.nodes.items in
    let top = c.args.here.now.top in
    fewer-kept nodes3 nodes4 top c.in_ok-spot.spot.top
    (omega (arith, c.child-child.ensures.behind, c.in_ok-spot.ensures.behind)) c.enter.ensures.above
    ∙ fewer-kept nodes2 nodes3 top c.child-child.result.top c.child-child.ensures.behind c.settle.ensures.above
    ∙ c.child-child.ensures.above

pub settle-requires-clause-at : goal.settle-requires-clause-at
settle-requires-clause-at g c =
    let at = c.requires.at in (
      at.0,
      first_with c.args.here.now.end at.1 c.args.here.now.job,
      last_with c.args.here.now.end at.2 c.args.here.now.job,
      c.child-child.ensures.tree at.0 at.3,
      c.child-child.ensures.child at.0 at.1 at.2 at.3 at.4,
      count g (goal.at.settle-requires-clause-at g c).After-child-child at.0 at.1 at.2 at.4,
    )

pub enter-requires-clause-at : goal.enter-requires-clause-at
enter-requires-clause-at g c =
    let at = c.requires.at in
    let first2 : List ℕ = first_with c.args.here.now.end at.1 c.args.here.now.job in
    let last2 : List ℕ = last_with c.args.here.now.end at.2 c.args.here.now.job in
    let tree = c.child-child.ensures.tree at.0 at.3 in (
      at.0,
      first2,
      last2,
      c.in_ok-spot.ensures.tree at.0 tree,
      c.in_ok-spot.ensures.node at.0 first2 last2 tree (c.child-child.ensures.child at.0 at.1 at.2 at.3 at.4)
          (count g (goal.at.enter-requires-clause-at g c).After-child-child at.0 at.1 at.2 at.4),
    )

pub returns-in_err-spot-clause-above : goal.returns-in_err-spot-clause-above
returns-in_err-spot-clause-above g c =
    fewer-kept c.child-child.new.self.nodes.items c.settle.new.self.nodes.items c.args.here.now.top
    c.child-child.result.top c.child-child.ensures.behind c.settle.ensures.above
    ∙ c.child-child.ensures.above

pub returns-clause-above : goal.returns-clause-above
returns-clause-above g c = above g (goal.at.returns-clause-above g c).After-enter

-- the level that is put behind those above it
stays : (g : Over) (c : After-enter g) (threshold : ℕ) (first last : List ℕ) →
    IsTree g.V.Vector.CAP c.args.instance.now threshold c.args.self.now →
    IsNext g.V.Vector.list g.V.Vector.CAP g.V.Vector.WIDTH c.args.instance.now threshold c.args.self.now.packs.items
    c.args.self.now.nodes.items (c.args.left + 1) first last c.args.place c.args.here.now →
    IsLevel g.V.Vector.list g.V.Vector.CAP g.V.Vector.WIDTH c.args.instance.now threshold c.enter.new.self.packs.items
    c.enter.new.self.nodes.items (c.args.left + 1) first last c.child-child.new.here
stays g c threshold first last tree next =
    let packs2 = c.child-child.new.self.packs.items in
    let packs4 = c.enter.new.self.packs.items in
    let nodes2 = c.child-child.new.self.nodes.items in
    let nodes3 = c.settle.new.self.nodes.items in
    let nodes4 = c.enter.new.self.nodes.items in
    let left = c.args.left + 1 in
    let here = c.child-child.new.here in
    let top = here.top in
    let low : top ≤ c.child-child.result.top = omega (arith, c.child-child.ensures.top, c.child-child.ensures.behind) in
    let same : take top nodes4 ≡ take top nodes2 =
    fewer-kept nodes3 nodes4 top c.in_ok-spot.spot.top (omega (arith, low, c.in_ok-spot.ensures.behind))
    c.enter.ensures.above
    ∙ fewer-kept nodes2 nodes3 top c.child-child.result.top low c.settle.ensures.above in
    level-moved g.V.Vector.list g.V.Vector.CAP g.V.Vector.WIDTH c.args.instance.now threshold packs2 packs4 nodes2 nodes4
    left
    first last here
    (omega (arith, c.requires.few, ap (λ ps. length ps.items) c.child-child.ensures.packs))
    (ap (λ ps. length ps.items) c.enter.ensures.packs ∙ c.settle.ensures.count)
    (λ none. ap (λ ps. slice_index_or ps.items (group_count left - 1) none) c.enter.ensures.packs
    ∙ c.settle.ensures.others left none (omega arith))
    same (c.child-child.ensures.level threshold first last tree next)

pub returns-clause-above_it : goal.returns-clause-above_it
returns-clause-above_it g c =
    let here = (goal.at.returns-clause-above_it g c).After-enter in
    on-ok c.enter.result _ (
      c.child-child.new.here,
      c.in_ok-push.ensures.items,
      c.child-child.ensures.end,
      c.child-child.ensures.job,
      c.child-child.ensures.top,
      c.child-child.ensures.rest,
      stays g here,
    )

pub returns-clause-level : goal.returns-clause-level
returns-clause-level g c threshold first last tree next =
    let first2 : List ℕ = first_with c.args.here.now.end first c.args.here.now.job in
    let last2 : List ℕ = last_with c.args.here.now.end last c.args.here.now.job in
    let tree2 = c.child-child.ensures.tree threshold tree in
    let counted = count g (goal.at.returns-clause-level g c).After-child-child threshold first last next in
    c.enter.ensures.level threshold first2 last2 (c.in_ok-spot.ensures.tree threshold tree2)
    (c.in_ok-spot.ensures.node threshold first2 last2 tree2
    (c.child-child.ensures.child threshold first last tree next) counted) counted

pub returns-in_err-push-clause-above : goal.returns-in_err-push-clause-above
returns-in_err-push-clause-above g c =
    fewer-kept c.child-child.new.self.nodes.items c.settle.new.self.nodes.items c.args.here.now.top
    c.child-child.result.top c.child-child.ensures.behind c.settle.ensures.above
    ∙ c.child-child.ensures.above
