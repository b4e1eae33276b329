use Rattle.flow_schedule.proofs.Times.{start-step, end-step, end-first_job, end-first_machine}
use Rattle.std.proofs.Common.{arith}
use Rattle.flow_schedule.proofs.laws.operation_starts_when_free.Goals as goal

pub returns-clause-start : goal.returns-clause-start
returns-clause-start c = start-step

pub returns-clause-end : goal.returns-clause-end
returns-clause-end c shop sequence place machine below =
    omega (arith, end-step shop sequence place machine below, start-step shop sequence place machine below)

pub returns-clause-first_job : goal.returns-clause-first_job
returns-clause-first_job c = end-first_job

pub returns-clause-first_machine : goal.returns-clause-first_machine
returns-clause-first_machine c = end-first_machine
