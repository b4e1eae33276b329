use Rattle.std.proofs.Common.{◌≡◌, ◌++◌, ◌-◌, ◌<◌, length, set, take, slice_index_or, length-append, ap, sym}
use Rattle.std.proofs.Common.{◌∙◌, subst, arith}
use Rattle.std.proofs.lemmas.List.{length-set, get_or-set_same, get_or_append_left}
use Rattle.flow_nodes.specs.Marks.{chosen}
use Rattle.flow_nodes.specs.Packs.{IsPack}
use Rattle.flow_check.specs.internal.Frames.{names_at}
use Rattle.flow_check.proofs.PackNames.{names-is, names-left, names-right}
use Rattle.flow_check.proofs.two_ended.walk.refill.Goals as goal

pub fill-requires-clause-fits : goal.fill-requires-clause-fits
fill-requires-clause-fits g c =
    let packs = c.args.packs.now in
    let split = c.split_at_mut-fewer in
    omega (
      arith,
      c.requires.fits,
      ap (λ names. length (chosen c.args.left.now.words names)) (names-right packs split.result.0.now
          split.result.1.now c.args.groups (c.args.from - 1) c.index-more-from.result split.ensures.value
          split.ensures.front_len (omega (arith, c.requires.fewer)) (omega (arith, c.requires.fewer, c.requires.more))),
      ap length (names-left packs split.result.0.now split.result.1.now (c.args.groups - 1)
          c.index-fewer-groups.result split.ensures.value
          (omega (arith, split.ensures.front_len, c.requires.some))),
    )

pub returns-clause-pack : goal.returns-clause-pack
returns-clause-pack g c none =
    let fewer = c.split_at_mut-fewer.result.0.now in
    let more = c.split_at_mut-fewer.result.1.now in
    let at = c.args.groups - 1 in
    let new = c.fill.new.self in
    let low : at < length fewer = omega (arith, c.split_at_mut-fewer.ensures.front_len, c.requires.some) in
    let there : slice_index_or (set fewer at new ++ more) at none ≡ new =
    get_or_append_left (set fewer at new) more none at (omega (arith, low, length-set fewer at new))
    ∙ get_or-set_same fewer at new none low in
    subst (IsPack g.V.Vector.list g.V.Vector.CAP g.V.Vector.WIDTH c.args.instance.now) (sym there) c.fill.ensures.pack

pub returns-clause-jobs : goal.returns-clause-jobs
returns-clause-jobs g c =
    let packs = c.args.packs.now in
    let fewer = c.split_at_mut-fewer.result.0.now in
    let more = c.split_at_mut-fewer.result.1.now in
    let at = c.args.groups - 1 in
    let new = c.fill.new.self in
    let low : at < length fewer = omega (arith, c.split_at_mut-fewer.ensures.front_len, c.requires.some) in
    let there : slice_index_or (set fewer at new ++ more) at new ≡ new =
    get_or_append_left (set fewer at new) more new at (omega (arith, low, length-set fewer at new))
    ∙ get_or-set_same fewer at new new low in
    let inside : at < length (set fewer at new ++ more) = omega (
      arith,
      low,
      length-set fewer at new,
      length-append (set fewer at new) more,
    ) in
    let names : names_at (set fewer at new ++ more) at ≡ new.names.items =
    names-is (set fewer at new ++ more) at new inside ∙ ap (λ p. p.names.items) there in
    let from : chosen c.args.left.now.words (names_at packs (c.args.from - 1))
    ≡ chosen c.args.left.now.words (slice_index_or more (c.args.from - 1 - c.args.groups) c.index-more-from.result).names.items =
    ap (chosen c.args.left.now.words) (names-right packs fewer more c.args.groups (c.args.from - 1) c.index-more-from.result
    c.split_at_mut-fewer.ensures.value c.split_at_mut-fewer.ensures.front_len (omega (arith, c.requires.fewer))
    (omega (arith, c.requires.fewer, c.requires.more))) in
    ap (take (length (chosen c.args.left.now.words (names_at packs (c.args.from - 1))))) names
    ∙ ap (λ jobs. take (length jobs) new.names.items) from
    ∙ c.fill.ensures.jobs
    ∙ sym from
