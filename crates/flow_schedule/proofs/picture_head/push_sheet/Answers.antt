use Rattle.std.proofs.Common.{refl}
use Rattle.flow_schedule.proofs.Texts.{words-first, words-next, text-next}
use Rattle.flow_schedule.proofs.picture_head.push_sheet.Goals as goal

pub returns : goal.returns
returns c =
    let one = words-first c.args.out.now.items _ c.in_ok-push_words.ensures refl in
    let two = words-next c.args.out.now.items _ _ one c.in_ok-push_words-2.ensures refl in
    text-next c.args.out.now.items _ _ two c.in_ok-extend_from_slice.ensures.items
