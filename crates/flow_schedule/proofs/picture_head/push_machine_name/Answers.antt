use Rattle.std.proofs.Common.{◌+◌, ap, refl}
use Rattle.flow_schedule.proofs.Texts.{words-first, words-next, text-next}
use Rattle.flow_schedule.proofs.picture_head.push_machine_name.Goals as goal

pub returns : goal.returns
returns c =
    let one = words-first c.args.out.now.items _ c.in_ok-push_words.ensures refl in
    let two = words-next c.args.out.now.items _ _ one c.in_ok-push_words-2.ensures
    (ap (λ y. y + 1650) c.y_of.ensures.value) in
    let three = words-next c.args.out.now.items _ _ two c.in_ok-push_words-3.ensures c.from.ensures in
    text-next c.args.out.now.items _ _ three c.in_ok-extend_from_slice.ensures.items
