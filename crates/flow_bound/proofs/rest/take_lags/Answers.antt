use Rattle.std.proofs.Common.{ℕ, ◌+◌, ◌-◌, ◌≤◌, min, slice_index, refl, sym, arith}
use Rattle.std.proofs.lemmas.Grind.{common_steps}
use Rattle.flow_shop.specs.Shop.{time_between}
use Rattle.flow_shop.proofs.Recurrence.{time_between-none, time_between-first}
use Rattle.flow_shop.proofs.Times.{times-small}
use Rattle.flow_bound.proofs.Rests.{written, below-stay, tail-before}
use Rattle.flow_bound.proofs.rest.take_lags.Goals as goal

pub loop-from-init : goal.loop-from-init
loop-from-init c = record {
  within = omega arith;
  size = omega arith;
  ahead_is = sym (time_between-none c.args.instance.now c.args.job (c.args.machine - 1 + 1) (c.args.machine - 1) (omega
      arith));
  are = λ k low high. absurd (omega arith);
  stay = λ k low high. refl;
}

pub overflow_add-ahead : goal.overflow_add-ahead
overflow_add-ahead c =
    omega (
      arith,
      c.loop-from.invariant.ahead_is,
      times-small c.args.instance.now c.args.job (c.loop-from.from + 1) (c.args.machine - 1) (omega arith)
          (omega (arith, c.requires.to)) c.machines.ensures.limits,
      c.time-ahead.ensures.limit,
    )

pub loop-from-preserved : goal.loop-from-preserved
loop-from-preserved c =
    let shop = c.args.instance.now in
    let from = c.loop-from.from in
    let last : ℕ = c.args.machine - 1 in
    let is = c.loop-from.invariant in
    let between = λ (n : ℕ). time_between shop c.args.job n last in
    let old = λ (n : ℕ). slice_index c.args.lags.now (n - 1) in
    let low : 1 ≤ from = omega arith in
    record {
      within = omega (arith, is.within);
      size = grind (arith, common_steps);
      ahead_is = tail-before shop c.args.job from c.loop-from.ahead c.time-ahead.result last low is.within is.ahead_is
          c.time-ahead.ensures.value;
      are = written (λ n. min (old n) (between n)) c.loop-from.lags from c.min.result last low (omega arith) (omega (
        arith,
        c.min.ensures,
        is.stay from low (omega arith),
        is.ahead_is,
        c.time-ahead.ensures.value,
        time_between-first shop c.args.job from last is.within,
      )) is.are;
      stay = below-stay old c.loop-from.lags from c.min.result low is.stay;
    }
