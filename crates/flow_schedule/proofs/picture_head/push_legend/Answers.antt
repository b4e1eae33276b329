use Rattle.std.proofs.Common.{refl}
use Rattle.flow_schedule.proofs.Texts.{words-first, text-next}
use Rattle.flow_schedule.proofs.picture_head.push_legend.Goals as goal

pub returns : goal.returns
returns c =
    let one = words-first c.args.out.now.items _ c.in_ok-push_words.ensures refl in
    let two = text-next c.args.out.now.items _ _ one c.in_ok-extend_from_slice.ensures.items in
    text-next c.args.out.now.items _ _ two c.in_ok-extend_from_slice-2.ensures.items
