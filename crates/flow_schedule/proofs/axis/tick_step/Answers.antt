use Rattle.std.proofs.Common.{ℕ, ◌/◌, subst, arith}
use Rattle.flow_schedule.specs.Scale.{IsRoundUp}
use Rattle.flow_schedule.proofs.Rounds.{step-of}
use Rattle.flow_schedule.proofs.axis.tick_step.Goals as goal

pub returns-clause-value : goal.returns-clause-value
returns-clause-value c =
    step-of c.args.makespan (c.args.breadth / 8000) c.round_up.result (omega arith)
    (subst (λ (least : ℕ). IsRoundUp least c.round_up.result) c.div_ceil.ensures c.round_up.ensures.value)
