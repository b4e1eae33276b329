use Rattle.std.proofs.Common.{◌∙◌, ◌-◌, ◌+◌, ◌*◌, ap, arith, slice_index_or}
use Rattle.flow_schedule.proofs.Times.{made}
use Rattle.flow_schedule.proofs.Tables.{timetable-at}
use Rattle.flow_schedule.proofs.path.operation_of.Goals as goal

pub returns : goal.returns
returns c sequence whole is =
    ap (λ width. slice_index_or c.args.operations.now ((c.args.place - 1) * width + (c.args.machine - 1))
    (made 0 0 0 0 0)) c.machines.ensures.value
    ∙ ap (λ list. slice_index_or list ((c.args.place - 1) * c.args.instance.now.machines + (c.args.machine - 1))
    (made 0 0 0 0 0)) is
    ∙ timetable-at c.args.instance.now sequence c.args.place c.args.machine (made 0 0 0 0 0) c.requires.place_from
    (omega arith) c.requires.machine_from c.requires.machine_to
