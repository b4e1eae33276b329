use Rattle.std.proofs.Common.{◌≡◌, ◌+◌, ◌-◌, ◌*◌, ◌<◌, ◌≤◌, length, map, slice_index_or, arith, ap, ◌∙◌}
use Rattle.std.specs.List.{sum_by}
use Rattle.std.proofs.lemmas.Grind.{common_steps}
use Rattle.std.proofs.lemmas.List.{get_or-set_same}
use Rattle.flow_limits.specs.Limits.{most_machines, greatest_time}
use Rattle.flow_shop.specs.Shop.{numbers, time, time_between}
use Rattle.flow_shop.specs.Least.{least}
use Rattle.flow_shop.specs.TwoLeast.{least_below}
use Rattle.flow_shop.proofs.Lists.{filled-more}
use Rattle.flow_shop.proofs.Times.{time_between-split}
use Rattle.flow_bound.proofs.Running.{others-stay, head-step, head-small, tail-small}
use Rattle.flow_bound.proofs.Running.{sum-step, least-step, least-of-jobs}
use Rattle.flow_bound.proofs.taillard.load_of.Goals as goal

pub overflow_add-heads : goal.overflow_add-heads
overflow_add-heads c =
    omega (
      arith,
      c.loop-job.invariant.others c.loop-job.job (omega arith) (omega arith),
      head-step c.args.instance.now c.loop-job.job c.args.machine c.requires.from,
      head-small c.args.instance.now c.loop-job.job c.args.machine c.jobs-job-end.ensures.limits c.requires.to,
    )

pub overflow_sub-totals : goal.overflow_sub-totals
overflow_sub-totals c =
    let shop = c.args.instance.now in
    omega (
      arith,
      get_or-set_same c.loop-job.heads (c.loop-job.job - 1) (slice_index_or c.loop-job.heads (c.loop-job.job - 1) 0
          + c.time-time.result) 0 (omega arith),
      c.loop-job.invariant.others c.loop-job.job (omega arith) (omega arith),
      c.requires.totals c.loop-job.job (omega arith) (omega arith),
      c.time-time.ensures.value,
      head-step shop c.loop-job.job c.args.machine c.requires.from,
      time_between-split shop c.loop-job.job 1 c.args.machine shop.machines (omega arith) c.requires.to,
    )

pub loop-job-preserved : goal.loop-job-preserved
loop-job-preserved c =
    let shop = c.args.instance.now in
    let job = c.loop-job.job in
    let machine = c.args.machine in
    let before = c.loop-job.invariant in
    let within : job - 1 < length c.loop-job.heads = omega arith in
    let head = before.others job (omega arith) (omega arith) in
    let value : slice_index_or c.loop-job.heads (job - 1) 0 + c.time-time.result ≡ time_between shop job 1 machine =
    omega (arith, head, c.time-time.ensures.value, head-step shop job machine c.requires.from) in
    let written = get_or-set_same c.loop-job.heads (job - 1) (slice_index_or c.loop-job.heads (job - 1) 0
    + c.time-time.result) 0 within in
    let total = c.requires.totals job (omega arith) (omega arith) in
    let split = time_between-split shop job 1 machine shop.machines (omega arith) c.requires.to in
    let least_head : c.loop-job.least_head
    ≡ least_below 4294967295 (map (λ job. time_between shop job 1 (machine - 1)) (numbers 1 (job - 1))) = before.head in
    let work : c.loop-job.work ≡ sum_by (λ job. time shop job machine) (numbers 1 (job - 1)) = before.work in
    let least_tail : c.loop-job.least_tail
    ≡ least_below 4294967295 (map (λ job. time_between shop job (machine + 1) shop.machines) (numbers 1 (job - 1))) =
    before.tail in
    record {
      length = grind (arith, common_steps);
      done = filled-more (λ job head. head ≡ time_between shop job 1 machine) c.loop-job.heads job
          (slice_index_or c.loop-job.heads (job - 1) 0 + c.time-time.result) (omega arith) within value before.done;
      others = others-stay (λ job. time_between shop job 1 (machine - 1)) c.loop-job.heads job
          (slice_index_or c.loop-job.heads (job - 1) 0 + c.time-time.result) shop.jobs (omega arith) before.others;
      head = omega (
        arith,
        least-step 4294967295 (λ job. time_between shop job 1 (machine - 1)) job
            (omega arith),
        least_head,
        head,
        c.min-least_head.ensures,
      );
      head_fits = omega (arith, before.head_fits, c.min-least_head.ensures);
      work = omega (arith, sum-step (λ job. time shop job machine) job (omega arith), work, c.time-time.ensures.value);
      small = omega (arith, before.small, c.time-time.ensures.limit);
      tail = omega (
        arith,
        least-step 4294967295 (λ job. time_between shop job (machine
            + 1) shop.machines) job (omega arith),
        least_tail,
        written,
        value,
        total,
        split,
        c.min-least_tail.ensures,
      );
      tail_fits = omega (arith, before.tail_fits, c.min-least_tail.ensures);
    }

pub overflow_add-result : goal.overflow_add-result
overflow_add-result c =
    omega (arith, c.from.ensures, c.from-2.ensures, c.loop-job.invariant.head_fits, c.loop-job.invariant.small)

pub overflow_add-result-2 : goal.overflow_add-result-2
overflow_add-result-2 c =
    let sums = c.loop-job.invariant in
    omega (arith, c.from.ensures, c.from-2.ensures, c.from-3.ensures, sums.head_fits, sums.small, sums.tail_fits)

pub returns-clause-value : goal.returns-clause-value
returns-clause-value c =
    let shop = c.args.instance.now in
    let machine = c.args.machine in
    let last : c.loop-job.job ≡ shop.jobs + 1 = omega arith in
    let some : 1 ≤ shop.jobs = c.jobs-job-end.ensures.limits.some_job in
    let head = least-of-jobs 4294967295 (most_machines * greatest_time) (λ job. time_between shop job 1
    (machine - 1)) shop.jobs c.loop-job.job (λ job. head-small shop job (machine - 1) c.jobs-job-end.ensures.limits
    (omega arith)) (omega arith) some last in
    let tail = least-of-jobs 4294967295 (most_machines * greatest_time) (λ job. time_between shop job (machine
    + 1) shop.machines) shop.jobs c.loop-job.job (λ job. tail-small shop job machine c.jobs-job-end.ensures.limits)
    (omega arith) some last in
    let least_head : c.loop-job.least_head
    ≡ least (map (λ job. time_between shop job 1 (machine - 1)) (numbers 1 shop.jobs)) = c.loop-job.invariant.head
    ∙ head.0 in
    let least_tail : c.loop-job.least_tail
    ≡ least (map (λ job. time_between shop job (machine + 1) shop.machines) (numbers 1 shop.jobs)) =
    c.loop-job.invariant.tail ∙ tail.0 in
    let e : c.loop-job.job - 1 ≡ shop.jobs = omega arith in
    let work : c.loop-job.work ≡ sum_by (λ job. time shop job machine) (numbers 1 shop.jobs) = c.loop-job.invariant.work
    ∙ ap (λ n. sum_by (λ job. time shop job machine) (numbers 1 n)) e in
    omega (arith, c.from.ensures, c.from-2.ensures, c.from-3.ensures, least_head, work, least_tail)
