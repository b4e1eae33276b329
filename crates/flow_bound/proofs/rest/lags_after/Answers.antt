use Rattle.std.proofs.Common.{ℕ, ◌+◌, ◌-◌, ◌≤◌, arith}
use Rattle.std.proofs.lemmas.Grind.{common_steps}
use Rattle.flow_shop.specs.JobSet.{members}
use Rattle.flow_shop.proofs.Recurrence.{time_between-first}
use Rattle.flow_bound.specs.Loads.{least_between}
use Rattle.flow_shop.proofs.Times.{times-small}
use Rattle.flow_bound.proofs.Rests.{written, tail-before}
use Rattle.flow_bound.proofs.rest.lags_after.Goals as goal

pub overflow_add-ahead : goal.overflow_add-ahead
overflow_add-ahead c =
    omega (
      arith,
      c.loop-from.invariant.ahead_is,
      times-small c.args.instance.now c.args.job (c.loop-from.from + 1) (c.args.machine - 1) (omega arith)
          (omega (arith, c.requires.to)) c.machines.ensures.limits,
      c.time-ahead.ensures.limit,
    )

-- the job's own lag, and the least lag with it
pub least_after-requires-clause-left : goal.least_after-requires-clause-left
least_after-requires-clause-left c =
    let shop = c.args.instance.now in
    let from = c.loop-from.from in
    let is = c.loop-from.invariant in (
      c.args.job,
      c.requires.job_from,
      c.requires.job_to,
      c.requires.out,
      omega (
        arith,
        is.ahead_is,
        c.time-ahead.ensures.value,
        time_between-first shop c.args.job from (c.args.machine - 1) is.within,
      ),
      c.requires.lags from (omega arith) (omega (arith, is.within)),
    )

pub loop-from-preserved : goal.loop-from-preserved
loop-from-preserved c =
    let shop = c.args.instance.now in
    let from = c.loop-from.from in
    let last : ℕ = c.args.machine - 1 in
    let after = c.args.after.now in
    let is = c.loop-from.invariant in
    let low : 1 ≤ from = omega arith in
    record {
      within = omega (arith, is.within);
      size = grind (arith, common_steps);
      ahead_is = tail-before shop c.args.job from c.loop-from.ahead c.time-ahead.result last low is.within is.ahead_is
          c.time-ahead.ensures.value;
      are = written (λ n. least_between shop (members after) n last) c.loop-from.new_lags from c.least_after.result
          last low (omega arith) c.least_after.ensures is.are;
    }
