use Rattle.std.proofs.Common.{◌≡◌, ◌+◌, ◌-◌, ◌*◌, ◌<◌, length, slice_index_or, ap, sym, subst, ◌∙◌, arith}
use Rattle.std.specs.Vec.{with_items}
use Rattle.std.proofs.lemmas.List.{get_or_default, with_items_is}
use Rattle.flow_check.specs.internal.Frames.{pack_groups}
use Rattle.flow_nodes.specs.Marks.{chosen}
use Rattle.flow_check.specs.internal.Frames.{HavePacks, here, names_at}
use Rattle.flow_check.proofs.PackNames.{have-written, names-count}
use Rattle.flow_check.proofs.two_ended.walk.Path.pack.Goals as goal

pub refill-requires-clause-fits : goal.refill-requires-clause-fits
refill-requires-clause-fits g c =
    let path = c.args.self.now in
    let frame = c.index_mut-frame.result.now in
    let slice = c.as_mut_slice.result.now in
    let from = c.pack_groups.result in
    let groups = c.pack_groups-2.result in
    let frame_is : here path ≡ frame =
    sym (c.index_mut-frame.ensures.value
    ∙ get_or_default path.frames.items path.depth frame _ c.requires.within) in
    let count : length (chosen frame.left.words (names_at slice (from - 1))) ≡ c.args.left =
    ap (λ ps. length (chosen frame.left.words (names_at ps (from - 1)))) c.as_mut_slice.ensures.value
    ∙ ap (λ n. length (chosen frame.left.words (names_at path.packs.items (n - 1)))) c.pack_groups.ensures
    ∙ ap (λ f. length (chosen f.left.words (names_at path.packs.items (pack_groups (c.args.left + 1) - 1))))
    (sym frame_is)
    ∙ c.requires.count in
    let size : length (names_at slice (groups - 1)) ≡ (groups - 1 + 1) * 16 =
    ap (λ ps. length (names_at ps (groups - 1))) c.as_mut_slice.ensures.value
    ∙ names-count c.args.instance.now path.packs.items (groups - 1) c.requires.packs
    (omega (arith, c.requires.packs.count, c.pack_groups-2.ensures, c.requires.few, c.requires.some)) in
    omega (arith, count, size, c.pack_groups-2.ensures, c.requires.some)

pub returns-clause-packs : goal.returns-clause-packs
returns-clause-packs g c =
    let shop = c.args.instance.now in
    let packs = c.args.self.now.packs in
    let new = c.refill.new.packs in
    let at = c.pack_groups-2.result - 1 in
    let value = c.as_mut_slice.ensures.value in
    let size : length new ≡ length packs.items = omega (arith, c.refill.auto.packs, ap length value) in
    let low : at < length packs.items =
    omega (arith, c.requires.packs.count, c.pack_groups-2.ensures, c.requires.few, c.requires.some) in
    let is : (with_items packs new).items ≡ new = with_items_is packs new (omega (arith, size, packs.ok.0)) in
    subst (HavePacks shop) (sym is) (have-written shop packs.items new at c.requires.packs low size
    (λ place none apart. c.refill.ensures.others place none apart ∙ ap (λ ps. slice_index_or ps place none) value)
    (λ none. (c.refill.ensures.pack none).room)
    (λ none. c.refill.ensures.count none ∙ ap (λ ps. length (slice_index_or ps at none).groups.items) value
    ∙ c.requires.packs.groups at none low)
    (λ none. (c.refill.ensures.bytes none).room))
