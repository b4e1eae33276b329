use Rattle.std.proofs.Common.{◌≡◌, ◌-◌, ◌++◌, flat_map}
use Rattle.std.specs.List.{range_with_len}
use Rattle.flow_schedule.specs.PictureHead.{machine_name_text}
use Rattle.flow_schedule.proofs.picture_head.push_machine_names.Given as goal

-- the names of the machines so far
abbrev pub invariant-loop-machine : goal.invariant-loop-machine
invariant-loop-machine l = l.out.items
    ≡ l.fn.out.items ++ flat_map machine_name_text (range_with_len 1 (l.machine - 1))
