use Rattle.std.proofs.Common.{◌≡◌, ◌-◌, ◌<◌, length, slice_index_or, ap, sym, ◌∙◌, subst, arith}
use Rattle.std.proofs.lemmas.List.{get_or-set_same, get_or_default}
use Rattle.flow_nodes.specs.Nodes.{IsNode}
use Rattle.flow_nodes.specs.Marks.{chosen}
use Rattle.flow_nodes.specs.Packs.{AreBytes, HasLeft, IsPack}
use Rattle.flow_check.specs.internal.Frames.{here, names_at}
use Rattle.flow_check.proofs.PackNames.{names-is}
use Rattle.flow_check.proofs.two_ended.walk.Path.open.Goals as goal

pub returns-clause-below : goal.returns-clause-below
returns-clause-below g c shop threshold first last ready =
    let path = c.args.self.now in
    let packs = path.packs.items in
    let at = c.args.groups - 1 in
    let frame = c.index_mut-frame.result.now in
    let pack = c.index.result.now in
    let below = c.mark_below.new.below in
    let frame_is : here path ≡ frame =
    sym (c.index_mut-frame.ensures.value
    ∙ get_or_default path.frames.items path.depth frame _ c.requires.within) in
    let low : at < length packs = omega (arith, c.requires.some, c.requires.few) in
    let pack_is : pack ≡ slice_index_or packs at pack = c.index.ensures in
    let names : names_at packs at ≡ pack.names.items =
    names-is packs at pack low ∙ ap (λ p. p.names.items) (sym pack_is) in
    ap (λ f. chosen f.below.words (names_at packs at)) (get_or-set_same path.frames.items path.depth (record {
      node = frame.node;
      left = frame.left;
      end = c.args.end;
      below = below;
      job = frame.job;
    }) _ c.requires.within)
    ∙ ap (chosen below.words) names
    ∙ c.mark_below.ensures.below shop threshold first last ready.limit
    (subst (λ f. IsNode shop first last f.node) frame_is ready.is_node)
    (subst (IsPack g.V.Vector.list g.V.Vector.CAP g.V.Vector.WIDTH shop) (sym pack_is) (ready.is_pack pack))
    (subst (AreBytes shop) (sym pack_is) (ready.bytes pack))
    (subst (λ f. HasLeft shop first last pack.names.items f.left) frame_is
    (subst (λ ns. HasLeft shop first last ns (here path).left) names ready.has_left))
