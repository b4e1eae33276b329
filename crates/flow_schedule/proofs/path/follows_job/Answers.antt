use Rattle.std.proofs.Common.{ap, arith}
use Rattle.flow_schedule.proofs.Stairs.{starts-first, starts-apart}
use Rattle.flow_schedule.proofs.path.follows_job.Goals as goal

pub returns-then-place-eq1-clause-machine : goal.returns-then-place-eq1-clause-machine
returns-then-place-eq1-clause-machine c sequence whole is other = (
  omega arith,
  starts-first c.args.instance.now sequence c.args.place c.args.machine (omega arith) (omega arith)
      c.requires.machine_from,
)

pub returns-clause-machine : goal.returns-clause-machine
returns-clause-machine c sequence whole is other =
    starts-apart c.args.instance.now sequence c.args.place c.args.machine c.operation_of-start.result.start
    c.operation_of.result.end c.requires.place_from (omega arith) c.requires.machine_from
    (ap (λ found. found.start) (c.operation_of-start.ensures sequence whole is))
    (ap (λ found. found.end) (c.operation_of.ensures sequence whole is)) other
