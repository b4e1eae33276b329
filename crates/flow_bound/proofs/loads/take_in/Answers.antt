use Rattle.std.proofs.Common.{◌+◌, ◌-◌, ◌≤◌, min, slice_index, refl, sym, arith}
use Rattle.std.proofs.lemmas.Grind.{common_steps}
use Rattle.flow_shop.specs.Shop.{time, time_between}
use Rattle.flow_shop.proofs.Recurrence.{time_between-none}
use Rattle.flow_bound.proofs.Running.{tail-small}
use Rattle.flow_bound.proofs.Rests.{written, below-stay, tail-before}
use Rattle.flow_bound.proofs.loads.take_in.Goals as goal

pub loop-machine-init : goal.loop-machine-init
loop-machine-init c = record {
  within = omega (arith, c.machines-machine.ensures.value);
  sums_size = omega arith;
  tails_size = omega arith;
  behind_is = sym (time_between-none c.args.instance.now c.args.job (c.machines-machine.result
      + 1) c.args.instance.now.machines (omega (arith, c.machines-machine.ensures.value)));
  sums_are = λ k low high. absurd (omega (arith, c.machines-machine.ensures.value));
  tails_are = λ k low high. absurd (omega (arith, c.machines-machine.ensures.value));
  sums_stay = λ k low high. refl;
  tails_stay = λ k low high. refl;
}

pub overflow_add-sums : goal.overflow_add-sums
overflow_add-sums c =
    let k = c.loop-machine.machine in
    omega (
      arith,
      c.loop-machine.invariant.sums_stay k (omega arith) (omega arith),
      c.requires.small k (omega arith) c.loop-machine.invariant.within,
      c.time-time.ensures.limit,
    )

pub overflow_add-behind : goal.overflow_add-behind
overflow_add-behind c =
    omega (
      arith,
      c.loop-machine.invariant.behind_is,
      tail-small c.args.instance.now c.args.job c.loop-machine.machine c.machines-machine.ensures.limits,
      c.time-time.ensures.limit,
    )

pub loop-machine-preserved : goal.loop-machine-preserved
loop-machine-preserved c =
    let shop = c.args.instance.now in
    let job = c.args.job in
    let k = c.loop-machine.machine in
    let is = c.loop-machine.invariant in
    let sums = c.args.sums.now in
    let tails = c.args.tails.now in
    let low : 1 ≤ k = omega arith in
    record {
      within = omega (arith, is.within);
      sums_size = grind (arith, common_steps);
      tails_size = grind (arith, common_steps);
      behind_is = tail-before shop job k c.loop-machine.behind c.time-time.result shop.machines (omega arith) is.within
          is.behind_is c.time-time.ensures.value;
      sums_are = written (λ n. slice_index sums (n - 1) + time shop job n) c.loop-machine.sums k
          (slice_index c.loop-machine.sums (k - 1) + c.time-time.result) shop.machines low (omega arith)
          (omega (arith, is.sums_stay k low (omega arith), c.time-time.ensures.value)) is.sums_are;
      tails_are = written (λ n. min (slice_index tails (n - 1)) (time_between shop job (n + 1) shop.machines))
          c.loop-machine.tails k c.min.result shop.machines (omega arith) (omega arith) (omega
          (arith, c.min.ensures, is.tails_stay k (omega arith) (omega arith), is.behind_is)) is.tails_are;
      sums_stay = below-stay (λ n. slice_index sums (n - 1)) c.loop-machine.sums k
          (slice_index c.loop-machine.sums (k - 1) + c.time-time.result) (omega arith) is.sums_stay;
      tails_stay = below-stay (λ n. slice_index tails (n - 1)) c.loop-machine.tails k c.min.result (omega arith)
          is.tails_stay;
    }
