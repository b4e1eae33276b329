use Rattle.std.proofs.Common.{◌≡◌, ◌++◌, flat_map}
use Rattle.std.specs.List.{range_with_len}
use Rattle.flow_schedule.specs.PictureHead.{tick_text}
use Rattle.flow_schedule.proofs.axis.push_ticks.Given as goal

-- the ticks so far
abbrev pub invariant-loop-count : goal.invariant-loop-count
invariant-loop-count l = l.out.items
    ≡ l.fn.out.items ++ flat_map (tick_text l.breadth l.makespan l.bottom l.step) (range_with_len 0 l.count)
