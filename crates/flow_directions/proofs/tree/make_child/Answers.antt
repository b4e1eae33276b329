use Rattle.std.proofs.Common.{◌<◌, length, set, ap, sym, ◌∙◌, subst, arith}
use Rattle.flow_nodes.specs.Marks.{mark}
use Rattle.flow_nodes.specs.Open.{HasRoomToOpen, IsOpenNode, children_at}
use Rattle.flow_directions.proofs.TreeSteps.{parted-left, parted-right, parted-set}
use Rattle.flow_directions.proofs.tree.make_child.Goals as goal

pub open_child-requires-clause-at : goal.open_child-requires-clause-at
open_child-requires-clause-at g c =
    let split = c.split_at_mut-above in
    let above = split.result.0.now in
    let deeper = split.result.1.now in
    let making = c.args.making in
    let parent = c.index-above-making.result in
    let child = c.index-deeper-0.result in
    let shop = c.args.instance.now in
    let pack = c.args.pack.now in
    let at = c.requires.at parent in
    let low : making.at < length above = omega (arith, split.ensures.front_len, c.requires.order) in
    let parent_is = parted-left c.args.nodes.now above deeper making.at parent parent split.ensures.value low in
    let child_is = parted-right c.args.nodes.now above deeper making.to parent child split.ensures.value
    split.ensures.front_len c.requires.room in (
      at.0,
      at.1,
      at.2,
      subst (IsOpenNode g.V.Vector.list g.V.Vector.CAP g.V.Vector.WIDTH shop at.0 at.1 at.2 pack) parent_is at.3,
      at.4,
      at.5,
      at.6,
      at.7,
      at.8,
      sym (ap (λ n. mark (children_at making.put.end n).below.words making.put.place) parent_is) ∙ at.9,
      subst (HasRoomToOpen shop (length pack.groups.items)) parent_is at.10,
      subst (HasRoomToOpen shop (length pack.groups.items)) child_is at.11,
    )

pub returns : goal.returns
returns g c =
    let split = c.split_at_mut-above in
    let above = split.result.0.now in
    let deeper = split.result.1.now in
    let making = c.args.making in
    let parent = c.index-above-making.result in
    let child = c.index-deeper-0.result in
    let new = c.open_child.new.child in
    let shop = c.args.instance.now in
    let pack = c.args.pack.now in
    let low : making.at < length above = omega (arith, split.ensures.front_len, c.requires.order) in (
      new,
      parted-set above deeper making.to new split.ensures.front_len
          ∙ ap (λ ns. set ns making.to new) (sym split.ensures.value),
      λ shop groups empty room. c.open_child.ensures.room shop groups
          (subst (HasRoomToOpen shop groups) (parted-right c.args.nodes.now above deeper making.to empty child
          split.ensures.value split.ensures.front_len c.requires.room) room),
      λ threshold first last empty is is_pack room limit marked.
          let parent_is = parted-left c.args.nodes.now above deeper making.at empty parent split.ensures.value low in
          c.open_child.ensures.child threshold first last
          (subst (IsOpenNode g.V.Vector.list g.V.Vector.CAP g.V.Vector.WIDTH shop threshold first last pack) parent_is is)
          is_pack room limit
          (sym (ap (λ n. mark (children_at making.put.end n).below.words making.put.place) parent_is) ∙ marked),
    )
