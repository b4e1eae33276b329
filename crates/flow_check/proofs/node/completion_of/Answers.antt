use Rattle.std.proofs.Common.{◌≡◌, ◌+◌, ◌-◌, ◌≤◌, max, slice_index, refl, ap, sym, ◌∙◌, arith}
use Rattle.flow_shop.specs.Limits.{greatest_completion}
use Rattle.flow_shop.specs.Shop.{time}
use Rattle.flow_shop.proofs.Recurrence.{after}
use Rattle.flow_shop.proofs.Fronts.{free_at, after-step, child-completion, time-small}
use Rattle.flow_check.proofs.node.completion_of.Goals as goal

pub loop-earlier-preserved : goal.loop-earlier-preserved
loop-earlier-preserved c =
    let low : 1 ≤ c.loop-earlier.earlier = c.loop-earlier.auto.earlier in
    let high : c.loop-earlier.earlier ≤ c.args.text.now.shop.now.machines =
    omega (arith, c.loop-earlier-test.true, c.requires.machine_to) in
    let there : c.from.result ≡ time c.args.text.now.shop.now c.args.job c.loop-earlier.earlier =
    c.from.ensures ∙ (c.args.text.now.are_rows.each c.args.job _ c.requires.job.0 c.requires.job.1
    c.loop-earlier.earlier low
    high).0 in
    let within : slice_index c.args.front.now (c.loop-earlier.earlier - 1) ≤ greatest_completion =
    c.requires.within (c.loop-earlier.earlier - 1) (omega (arith, low, high)) in
    let sum : c.max.result + c.from.result
    ≡ max (slice_index c.args.front.now (c.loop-earlier.earlier - 1)) c.loop-earlier.free + c.from.result =
    omega (arith, c.max.ensures) in
    let value = after-step c.args.text.now.shop.now c.args.front.now c.args.front.now c.args.job
    c.loop-earlier.earlier c.loop-earlier.free c.from.result (c.max.result + c.from.result)
    low c.loop-earlier.invariant.value refl there sum in
    let next : c.loop-earlier.earlier + 1 - 1 ≡ c.loop-earlier.earlier = omega arith in
    record {
      value = value ∙ ap (after c.args.text.now.shop.now (free_at c.args.front.now) c.args.job) (sym next);
      small = omega (
        arith,
        sum,
        within,
        low,
        c.loop-earlier.invariant.small,
        there,
        time-small
            c.args.text.now.shop.now c.args.job c.loop-earlier.earlier c.args.text.now.are_rows.limits,
      );
    }

pub returns-clause-value : goal.returns-clause-value
returns-clause-value c list is =
    let end : c.loop-earlier.earlier - 1 ≡ c.args.machine =
    omega (arith, c.loop-earlier-test.false, c.loop-earlier.auto.earlier, c.loop-earlier.auto.earlier-end) in
    c.loop-earlier.invariant.value ∙ ap (after c.args.text.now.shop.now (free_at c.args.front.now) c.args.job) end
    ∙ child-completion c.args.text.now.shop.now list c.args.front.now c.args.job c.args.machine
    c.requires.machine_to is
