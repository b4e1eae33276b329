use Rattle.std.proofs.Common.{◌≡◌, ◌+◌, ◌-◌, ◌<◌, ◌≤◌, true, length, slice_index, slice_set, ap, sym, ◌∙◌, arith}
use Rattle.std.specs.List.{sum_by}
use Rattle.std.proofs.lemmas.Bool.{false≢true}
use Rattle.std.proofs.lemmas.Grind.{common_steps}
use Rattle.flow_limits.specs.Limits.{most_jobs}
use Rattle.flow_shop.specs.Shop.{time, time_between}
use Rattle.flow_shop.specs.JobSet.{members}
use Rattle.flow_shop.proofs.Recurrence.{time_between-none}
use Rattle.flow_bound.specs.Loads.{least_between, least_tail}
use Rattle.flow_bound.proofs.Running.{tail-small}
use Rattle.flow_bound.proofs.Rests.{sum-with, written, tail-before}
use Rattle.flow_bound.proofs.loads.Loads.step.Goals as goal
use Rattle.flow_bound.proofs.loads.Loads.step.Goals.{After-time-time}

pub prove-unreachable-requires : goal.prove-unreachable-requires
prove-unreachable-requires c = false≢true (sym c.requires.out ∙ sym c.contains.ensures.value ∙ c.if-prove.true)

pub loop-machine-init : goal.loop-machine-init
loop-machine-init c =
    let shop = c.args.instance.now in
    record {
      machines_are = c.machines-machines.ensures.value;
      within = omega (arith, c.machines-machines.ensures.value);
      sums_size = omega (arith, c.self.told.0);
      tails_size = omega (arith, c.self.told.1);
      behind_is = sym (time_between-none shop c.args.job (c.machines-machines.result
          + 1) shop.machines (omega (arith, c.machines-machines.ensures.value)));
      sums_are = λ k low high. absurd (omega (arith, c.machines-machines.ensures.value));
      tails_are = λ k low high. absurd (omega (arith, c.machines-machines.ensures.value));
    }

-- the sum on the machine, before and after
here : (c : After-time-time) → slice_index c.self.inside.sums (c.loop-machine.machine - 1)
    ≡ c.time-time.result + sum_by (λ job. time c.args.instance.now job c.loop-machine.machine)
    (members c.args.after.now)
here c =
    let shop = c.args.instance.now in
    let k = c.loop-machine.machine in
    let after = c.args.after.now in
    let job = c.args.job in
    let most : shop.jobs ≤ most_jobs = c.machines-machines.ensures.limits.jobs in
    let within : job - 1 < length after =
    omega (arith, c.contains.ensures.size, c.requires.job_from, c.requires.job_to, most) in
    let low : 1 ≤ k = omega (arith, c.loop-machine-test.true) in
    let sums : slice_index c.self.inside.sums (k - 1) ≡ slice_index c.args.self.now.sums (k - 1) =
    ap (λ o. slice_index o.sums (k - 1)) c.self.view_is in
    let more = sum-with (λ job. time shop job k) after shop.jobs job c.requires.job_from c.requires.job_to within
    c.requires.jobs c.requires.out in
    omega (
      arith,
      sums,
      c.requires.loads.sums_are k low c.loop-machine.invariant.within,
      more,
      c.time-time.ensures.value,
    )

pub overflow_sub-sums : goal.overflow_sub-sums
overflow_sub-sums c = omega (arith, here (goal.at.overflow_sub-sums c).After-time-time)

-- the job's own tail, and the least tail with it
pub least_after-requires-clause-left : goal.least_after-requires-clause-left
least_after-requires-clause-left c =
    let shop = c.args.instance.now in
    let k = c.loop-machine.machine in
    let last = c.machines-machines.ensures.value in
    let with = members (slice_set c.args.after.now (c.args.job - 1) true) in (
      c.args.job,
      c.requires.job_from,
      c.requires.job_to,
      c.requires.out,
      c.loop-machine.invariant.behind_is ∙ sym (ap (time_between shop c.args.job (k + 1)) last),
      ap (λ o. slice_index o.tails (k - 1)) c.self.view_is
          ∙ c.requires.loads.tails_are k (omega arith) c.loop-machine.invariant.within
          ∙ sym (ap (least_between shop with (k + 1)) last),
    )

pub overflow_add-behind : goal.overflow_add-behind
overflow_add-behind c =
    omega (
      arith,
      c.loop-machine.invariant.behind_is,
      tail-small c.args.instance.now c.args.job c.loop-machine.machine c.machines-machines.ensures.limits,
      c.time-time.ensures.limit,
    )

pub loop-machine-preserved : goal.loop-machine-preserved
loop-machine-preserved c =
    let shop = c.args.instance.now in
    let k = c.loop-machine.machine in
    let after = c.args.after.now in
    let sum = here (goal.at.loop-machine-preserved c).After-time-time in
    record {
      machines_are = c.loop-machine.invariant.machines_are;
      within = omega (arith, c.loop-machine.invariant.within);
      sums_size = grind (arith, common_steps);
      tails_size = grind (arith, common_steps);
      behind_is =
          tail-before shop c.args.job k c.loop-machine.behind c.time-time.result shop.machines
          (omega arith) c.loop-machine.invariant.within
          c.loop-machine.invariant.behind_is c.time-time.ensures.value;
      sums_are = written (λ n. sum_by (λ job. time shop job n) (members after)) c.loop-machine.sums k
          (slice_index c.self.inside.sums (k - 1) - c.time-time.result) shop.machines (omega arith) (omega arith) (omega
          (arith, sum))
          c.loop-machine.invariant.sums_are;
      tails_are = written (least_tail shop (members after)) c.loop-machine.tails k c.least_after.result shop.machines
          (omega arith) (omega arith) (c.least_after.ensures
          ∙ ap (least_between shop (members after) (k + 1)) c.machines-machines.ensures.value)
          c.loop-machine.invariant.tails_are;
    }
