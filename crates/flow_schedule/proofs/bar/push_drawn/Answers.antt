use Rattle.flow_schedule.proofs.Texts.{text-next}
use Rattle.flow_schedule.proofs.bar.push_drawn.Goals as goal

pub returns : goal.returns
returns c =
    let two = text-next c.args.out.now.items _ _ c.in_ok-push_position.ensures c.in_ok-push_style.ensures in
    let three = text-next c.args.out.now.items _ _ two c.in_ok-push_names.ensures in
    let four = text-next c.args.out.now.items _ _ three c.in_ok-push_times.ensures in
    text-next c.args.out.now.items _ _ four c.in_ok-push_label.ensures
