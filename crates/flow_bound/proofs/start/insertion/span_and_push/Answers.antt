use Rattle.std.proofs.Common.{◌≡◌, ◌≢◌, ℕ, ◌+◌, ◌-◌, ◌<◌, ◌≤◌, [], length, map, slice_index, slice_index_or, arith, ap}
use Rattle.std.proofs.Common.{sym, ◌∙◌}
use Rattle.std.proofs.lemmas.Grind.{common_steps}
use Rattle.std.proofs.lemmas.List.{get_or-set_other}
use Rattle.flow_limits.specs.Limits.{greatest_completion}
use Rattle.flow_shop.specs.Shop.{numbers, time}
use Rattle.flow_shop.specs.Least.{greatest}
use Rattle.flow_shop.proofs.Recurrence.{after}
use Rattle.flow_shop.proofs.Fronts.{free_at, after-step, done-more, front-push, time-small}
use Rattle.flow_bound.proofs.FrontsAndTails.{between-is}
use Rattle.flow_shop.proofs.Ranges.{greatest-step}
use Rattle.flow_bound.proofs.start.insertion.span_and_push.Goals as goal

pub loop-machine-preserved : goal.loop-machine-preserved
loop-machine-preserved c =
    let shop = c.args.instance.now in
    let old = c.args.front.now in
    let tails = c.args.tails.now in
    let machine = c.loop-machine.machine in
    let here = c.loop-machine.invariant in
    let row_time : ℕ → ℕ = λ job. slice_index (slice_index_or c.args.rows.now (job - 1) (record {
      times = [];
      tails = [];
    })).times (machine - 1) in
    let there : row_time c.args.job ≡ time shop c.args.job machine =
    (c.requires.rows.each c.args.job _ c.requires.job_from c.requires.job_to machine (omega arith) (omega arith)).0 in
    let next_rows = c.requires.rows.each c.args.next _ c.requires.next_from c.requires.next_to in
    let next_there : row_time c.args.next ≡ time shop c.args.next machine =
    (next_rows machine (omega arith) (omega arith)).0 in
    let within : machine - 1 < length c.loop-machine.front = omega (arith, here.length) in
    let same : slice_index c.loop-machine.front (machine - 1) ≡ slice_index old (machine - 1) =
    here.others (machine - 1) (omega arith) in
    let completion : c.max.result + row_time c.args.job ≡ after shop (free_at old) c.args.job machine =
    after-step shop old c.loop-machine.front c.args.job machine c.loop-machine.completion (row_time
    c.args.job) (c.max.result + row_time c.args.job)
    (omega arith) here.completion same there (omega (arith, c.max.ensures)) in
    let value = after-step shop old c.loop-machine.front c.args.next machine c.loop-machine.free (row_time
    c.args.next) (c.max-in-loop-machine.result + row_time c.args.next)
    (omega arith) here.free same next_there (omega (arith, c.max-in-loop-machine.ensures)) in
    let old_small : slice_index old (machine - 1) ≤ greatest_completion =
    c.requires.front (machine - 1) (omega arith) in
    let tail_small : slice_index tails (machine - 1) ≤ greatest_completion =
    c.requires.tails (machine - 1) (omega arith) in
    let next : machine + 1 - 1 ≡ machine = omega arith in
    let step = greatest-step (λ machine. after shop (free_at old) c.args.job machine
    + free_at tails machine) machine (omega arith) in
    let time_small = time-small shop c.args.job machine c.machines-machine-end.ensures.limits in
    let next_small = time-small shop c.args.next machine c.machines-machine-end.ensures.limits in
    record {
      completion = completion ∙ ap (after shop (free_at old) c.args.job) (sym next);
      most = omega (arith, step, here.most, completion, c.max-most.ensures);
      completion_small = omega (arith, here.completion_small, same, old_small, there, time_small, c.max.ensures);
      most_small = omega (
        arith,
        here.most_small,
        here.completion_small,
        same,
        old_small,
        tail_small,
        there,
        time_small,
        c.max.ensures,
        c.max-most.ensures,
      );
      free = value ∙ ap (after shop (free_at old) c.args.next) (sym next);
      length = grind (arith, common_steps);
      free_small = omega (
        arith,
        here.free_small,
        same,
        old_small,
        next_there,
        next_small,
        c.max-in-loop-machine.ensures,
      );
      done = done-more shop old c.loop-machine.front c.args.next machine (c.max-in-loop-machine.result
          + row_time c.args.next) (omega arith) within value here.done;
      others = λ place high. let other : place ≢ machine - 1 = omega arith in
          rw get_or-set_other (here.others place (omega arith));
    }

pub returns-clause-span : goal.returns-clause-span
returns-clause-span c before behind is_front are_tails =
    let shop = c.args.instance.now in
    let last : c.loop-machine.machine - 1 ≡ shop.machines = omega arith in
    let value : ℕ → ℕ = λ machine. after shop (free_at c.args.front.now) c.args.job machine
    + free_at c.args.tails.now machine in
    between-is shop before behind c.args.front.now c.args.tails.now c.args.job c.from.result is_front are_tails
    (c.from.ensures ∙ c.loop-machine.invariant.most ∙ ap (λ n. greatest (map value (numbers 1 n))) last)

pub returns-clause-front : goal.returns-clause-front
returns-clause-front c jobs front =
    front-push c.args.instance.now jobs c.args.front.now c.loop-machine.front c.args.next
    (λ machine low high. c.loop-machine.invariant.done machine low (omega arith)) front
