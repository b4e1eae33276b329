use Rattle.std.proofs.Common.{◌≡◌, ◌∙◌, suc, ◌+◌, ◌++◌, flat_map, ap, sym, arith}
use Rattle.std.specs.List.{range_with_len}
use Rattle.flow_schedule.specs.PictureHead.{tick_text}
use Rattle.flow_schedule.proofs.Texts.{text-next, numbers-more}
use Rattle.flow_schedule.proofs.axis.push_ticks.Goals as goal

pub loop-count-preserved : goal.loop-count-preserved
loop-count-preserved c =
    let text = tick_text c.args.breadth c.args.makespan c.args.bottom c.args.step in
    let next : c.loop-count.count + 1 ≡ suc c.loop-count.count = omega arith in
    numbers-more text c.args.out.now.items c.loop-count.out.items c.push_time.new.out.items 0 c.loop-count.count
    c.loop-count.count (omega arith) c.loop-count.invariant
    (text-next c.loop-count.out.items _ _ c.in_ok-push_line.ensures c.in_ok-push_time.ensures)
    ∙ ap (λ count. c.args.out.now.items ++ flat_map text (range_with_len 0 count)) (sym next)
