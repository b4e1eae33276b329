use Rattle.std.proofs.Common.{◌≡◌, ◌+◌, ◌-◌, map, max, arith, ap, ◌∙◌}
use Rattle.flow_limits.specs.Limits.{most_jobs}
use Rattle.flow_shop.specs.Shop.{numbers, time_between}
use Rattle.flow_shop.specs.Least.{greatest}
use Rattle.flow_bound.specs.Totals.{total}
use Rattle.flow_bound.specs.Taillard.{machine_load, taillard_bound}
use Rattle.flow_shop.proofs.Ranges.{greatest-step}
use Rattle.flow_bound.proofs.Running.{times-none}
use Rattle.flow_bound.proofs.MachineLoads.{taillard-below}
use Rattle.flow_bound.proofs.taillard.taillard_bound.Goals as goal

pub loop-machine-init : goal.loop-machine-init
loop-machine-init c =
    let shop = c.args.instance.now in
    let totals : c.greatest_total.result ≡ greatest (map (total shop) (numbers 1 shop.jobs)) =
    c.greatest_total.ensures in
    let most : c.from-most.result ≡ max 0 (greatest (map (total shop) (numbers 1 shop.jobs))) =
    omega (arith, c.from-most.ensures, totals) in
    record {
      heads = λ job from to. times-none shop most_jobs job 1 (omega arith);
      most = most;
    }

pub loop-machine-preserved : goal.loop-machine-preserved
loop-machine-preserved c =
    let shop = c.args.instance.now in
    let next : c.loop-machine.machine ≡ c.loop-machine.machine + 1 - 1 = omega arith in
    let before : c.loop-machine.most
    ≡ max (greatest (map (machine_load shop) (numbers 1 (c.loop-machine.machine - 1)))) (greatest (map (total shop)
    (numbers 1 shop.jobs))) = c.loop-machine.invariant.most in
    let step = greatest-step (machine_load shop) c.loop-machine.machine (omega arith) in
    record {
      heads = λ job from to. c.load_of.ensures.heads job from to ∙ ap (time_between shop job 1) next;
      most = omega (arith, before, step, c.load_of.ensures.value, c.max-most.ensures);
    }

pub returns-clause-admissible : goal.returns-clause-admissible
returns-clause-admissible c sequence is =
    let shop = c.args.instance.now in
    let last : c.loop-machine.machine - 1 ≡ shop.machines = omega arith in
    let most : c.loop-machine.most ≡ taillard_bound shop =
    c.loop-machine.invariant.most
    ∙ ap (λ k. max (greatest (map (machine_load shop) (numbers 1 k))) (greatest (map (total shop)
    (numbers 1 shop.jobs)))) last in
    omega (arith, most, taillard-below shop sequence c.machines-machine-end.ensures.limits is)
