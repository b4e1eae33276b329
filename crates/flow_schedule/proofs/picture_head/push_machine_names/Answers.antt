use Rattle.std.proofs.Common.{◌≡◌, ◌∙◌, suc, ◌+◌, ◌-◌, ◌++◌, flat_map, ap, sym, arith}
use Rattle.std.specs.List.{range_with_len}
use Rattle.flow_schedule.specs.PictureHead.{machine_name_text}
use Rattle.flow_schedule.proofs.Texts.{numbers-more}
use Rattle.flow_schedule.proofs.picture_head.push_machine_names.Goals as goal

pub loop-machine-preserved : goal.loop-machine-preserved
loop-machine-preserved c =
    let next : c.loop-machine.machine + 1 - 1 ≡ suc (c.loop-machine.machine - 1) = omega arith in
    numbers-more machine_name_text c.args.out.now.items c.loop-machine.out.items c.push_machine_name.new.out.items 1
    (c.loop-machine.machine - 1) c.loop-machine.machine (omega arith) c.loop-machine.invariant
    c.in_ok-push_machine_name.ensures
    ∙ ap (λ count. c.args.out.now.items ++ flat_map machine_name_text (range_with_len 1 count)) (sym next)
