use Rattle.std.proofs.Common.{◌≡◌, ℕ, ◌+◌, ◌-◌, ◌≤◌, [], map, slice_index, slice_index_or, arith, ap, sym, ◌∙◌}
use Rattle.flow_limits.specs.Limits.{greatest_completion}
use Rattle.flow_shop.specs.Shop.{numbers, time}
use Rattle.flow_shop.specs.Least.{greatest}
use Rattle.flow_shop.proofs.Recurrence.{after}
use Rattle.flow_shop.proofs.Fronts.{free_at, after-step, time-small}
use Rattle.flow_bound.proofs.FrontsAndTails.{between-is}
use Rattle.flow_shop.proofs.Ranges.{greatest-step}
use Rattle.flow_bound.proofs.start.insertion.span_between.Goals as goal

pub loop-machine-preserved : goal.loop-machine-preserved
loop-machine-preserved c =
    let shop = c.args.instance.now in
    let front = c.args.front.now in
    let tails = c.args.tails.now in
    let machine = c.loop-machine.machine in
    let from_time : ℕ = slice_index (slice_index_or c.args.rows.now (c.args.job - 1) (record {
      times = [];
      tails = [];
    })).times (machine - 1) in
    let there : from_time ≡ time shop c.args.job machine =
    (c.requires.rows.each c.args.job _ c.requires.job_from c.requires.job_to machine (omega arith) (omega arith)).0 in
    let before = c.loop-machine.invariant in
    let completion : c.max.result + from_time ≡ after shop (free_at front) c.args.job machine =
    after-step shop front front c.args.job machine c.loop-machine.completion from_time (c.max.result + from_time)
    (omega arith) before.completion (omega arith) there (omega (arith, c.max.ensures)) in
    let front_small : slice_index front (machine - 1) ≤ greatest_completion =
    c.requires.front (machine - 1) (omega arith) in
    let tail_small : slice_index tails (machine - 1) ≤ greatest_completion =
    c.requires.tails (machine - 1) (omega arith) in
    let next : machine + 1 - 1 ≡ machine = omega arith in
    let step = greatest-step (λ machine. after shop (free_at front) c.args.job machine
    + free_at tails machine) machine (omega arith) in
    let most : c.loop-machine.most
    ≡ greatest (map (λ machine. after shop (free_at front) c.args.job machine
    + free_at tails machine) (numbers 1 (machine - 1))) =
    before.most in
    let time_small = time-small shop c.args.job machine c.machines-machine-end.ensures.limits in
    record {
      completion = completion ∙ ap (after shop (free_at front) c.args.job) (sym next);
      most = omega (arith, step, most, completion, c.max-most.ensures);
      completion_small = omega (arith, before.completion_small, front_small, there, time_small, c.max.ensures);
      most_small = omega (
        arith,
        before.most_small,
        before.completion_small,
        front_small,
        tail_small,
        there,
        time_small,
        c.max.ensures,
        c.max-most.ensures,
      );
    }

pub returns : goal.returns
returns c before behind is_front are_tails =
    let shop = c.args.instance.now in
    let last : c.loop-machine.machine - 1 ≡ shop.machines = omega arith in
    let value : ℕ → ℕ = λ machine. after shop (free_at c.args.front.now) c.args.job machine
    + free_at c.args.tails.now machine in
    between-is shop before behind c.args.front.now c.args.tails.now c.args.job c.from.result is_front are_tails
    (c.from.ensures ∙ c.loop-machine.invariant.most ∙ ap (λ n. greatest (map value (numbers 1 n))) last)
