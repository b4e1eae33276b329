use Rattle.std.proofs.Common.{◌-◌, ◌<◌, length, set, take, ap, sym, ◌∙◌, arith}
use Rattle.std.proofs.lemmas.List.{set-append_left}
use Rattle.flow_nodes.specs.Packs.{jobs_at}
use Rattle.flow_directions.proofs.TreeSteps.{parted-left, parted-right}
use Rattle.flow_directions.proofs.tree.refill.Goals as goal

pub fill-requires-clause-fits : goal.fill-requires-clause-fits
fill-requires-clause-fits g c =
    let split = c.split_at_mut-fewer in
    let fewer = split.result.0.now in
    let more = split.result.1.now in
    let at = c.args.groups - 1 in
    let old = c.index-fewer-groups.result in
    let from = c.index-more-0.result in
    let low : at < length fewer = omega (arith, split.ensures.front_len, c.requires.some) in
    omega (
      arith,
      c.requires.fits from,
      ap (λ p. length (jobs_at p c.args.left.now)) (parted-right c.args.packs.now fewer more c.args.groups from from
          split.ensures.value split.ensures.front_len c.requires.more),
      ap (λ p. length p.names.items) (parted-left c.args.packs.now fewer more at from old split.ensures.value low),
    )

pub returns : goal.returns
returns g c =
    let split = c.split_at_mut-fewer in
    let fewer = split.result.0.now in
    let more = split.result.1.now in
    let at = c.args.groups - 1 in
    let old = c.index-fewer-groups.result in
    let from = c.index-more-0.result in
    let new = c.fill.new.self in
    let low : at < length fewer = omega (arith, split.ensures.front_len, c.requires.some) in
    record {
      pack = (
        new,
        sym (set-append_left fewer more at new low) ∙ ap (λ ps. set ps at new) (sym split.ensures.value),
        c.fill.ensures.pack,
        λ none. c.fill.ensures.count
            ∙ sym (ap (λ p. length p.groups.items)
            (parted-left c.args.packs.now fewer more at none old split.ensures.value low)),
        λ none.
            let from_is = parted-right c.args.packs.now fewer more c.args.groups none from split.ensures.value
            split.ensures.front_len c.requires.more in
            ap (λ p. take (length (jobs_at p c.args.left.now)) new.names.items) from_is
            ∙ c.fill.ensures.jobs
            ∙ sym (ap (λ p. jobs_at p c.args.left.now) from_is),
      );
    }
