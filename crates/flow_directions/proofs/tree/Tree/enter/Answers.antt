use Rattle.std.proofs.Common.{◌≡◌, ◌<◌, length, ap, sym, ◌∙◌, subst, arith}
use Rattle.std.proofs.lemmas.List.{get_or_default}
use Rattle.flow_nodes.specs.Groups.{group_count}
use Rattle.flow_nodes.specs.Packs.{left_below}
use Rattle.flow_directions.specs.internal.Levels.{IsBegun}
use Rattle.flow_directions.specs.internal.Tree.{AreKept, IsOpenAt}
use Rattle.flow_directions.proofs.LevelMoves.{level-begun}
use Rattle.flow_directions.proofs.TreeSteps.{open-kept}
use Rattle.flow_directions.proofs.tree.Tree.enter.Goals as goal

pub returns-clause-level : goal.returns-clause-level
returns-clause-level g c threshold first last tree opens count =
    let list = g.V.Vector.list in
    let cap = g.V.Vector.CAP in
    let width = g.V.Vector.WIDTH in
    let shop = c.args.instance.now in
    let left = c.args.left in
    let spot = c.args.spot in
    let chosen = c.in_ok-chosen.chosen in
    let packs = c.args.self.now.packs.items in
    let nodes = c.args.self.now.nodes.items in
    let packs2 = c.choose.new.self.packs.items in
    let nodes2 = c.choose.new.self.nodes.items in
    let node = c.index.result.now in
    let same : c.group_count.result ≡ group_count left = c.group_count.ensures in
    let made = c.in_ok-chosen.ensures in
    let opened : IsOpenAt list cap width shop threshold first last c.group_count.result spot.at packs nodes =
    subst (λ n. IsOpenAt list cap width shop threshold first last n spot.at packs nodes) (sym same) opens in
    let is : IsOpenAt list cap width shop threshold first last (group_count left) spot.at packs2 nodes2 =
    open-kept list cap width shop threshold first last (group_count left) spot.at spot.top packs packs2 nodes nodes2
    (ap (λ ps. ps.items) made.packs) made.above c.requires.order opens in
    let within : spot.at < length nodes2 = omega (arith, c.requires.order, made.top, made.room) in
    subst (λ m. IsBegun list cap width shop threshold packs2 nodes2 left first last (record {
      at = spot.at;
      top = chosen.top;
      end = chosen.end;
      rest = m.below;
      kept = chosen.kept;
      job = 0;
    })) (sym c.at.ensures)
    (level-begun list cap width shop threshold packs2 nodes2 left first last spot.at chosen.top chosen.end node
    chosen.kept 0
    is (omega (arith, c.requires.few, c.requires.some, ap (λ ps. length ps.items) made.packs))
    (omega (arith, c.requires.order, made.top))
    (λ empty. get_or_default nodes2 spot.at empty node within ∙ sym c.index.ensures)
    count (made.end threshold first last tree opened)
    (λ from k. (
      omega (arith, c.requires.order, made.from from k),
      (made.kept threshold first last tree opened from k).0,
    ))
    made.small
    (λ from k. subst (λ n. AreKept list cap width shop threshold chosen.end first last n
    (left_below shop threshold chosen.end first last) from packs2 nodes2) same
    (made.kept threshold first last tree opened from k).1))
