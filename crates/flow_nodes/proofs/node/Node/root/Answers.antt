use Rattle.std.proofs.Common.{◌≡◌, ℕ, ◌-◌, ◌+◌, ◌≤◌, ◌<◌, [], ap, ◌∙◌, arith}
use Rattle.std.proofs.lemmas.List.{length-set}
use Rattle.flow_limits.specs.Limits.{most_machines}
use Rattle.flow_shop.specs.Shop.{time_between, numbers}
use Rattle.flow_shop.specs.Least.{least}
use Rattle.std.proofs.Common.{map}
use Rattle.flow_shop.specs.Ends.{head, tail}
use Rattle.flow_nodes.specs.Nodes.{work}
use Rattle.flow_shop.proofs.Lists.{filled-more}
use Rattle.flow_nodes.proofs.KeptNodes.{root-node}
use Rattle.flow_nodes.proofs.node.Node.root.Goals as goal

pub loop-machine-preserved : goal.loop-machine-preserved
loop-machine-preserved c =
    let low : 1 ≤ c.loop-machine.machine = omega arith in
    let high : c.loop-machine.machine ≤ c.args.instance.now.machines =
    omega (arith, c.loop-machine-test.true, c.machines-machines.ensures.value) in
    let most : c.args.instance.now.machines ≤ most_machines = c.machines-machines.ensures.limits.machines in
    let i = c.loop-machine.invariant in
    let place : ℕ = c.loop-machine.machine - 1 in
    let back : c.least_between-in-loop-machine.result ≡ tail c.args.instance.now c.loop-machine.machine =
    c.least_between-in-loop-machine.ensures
    ∙ ap (λ m. least (map (λ job. time_between c.args.instance.now job (c.loop-machine.machine + 1) m)
    (numbers 1 c.args.instance.now.jobs))) c.machines-machines.ensures.value in
    record {
      front_size = length-set c.loop-machine.front place c.least_between.result ∙ i.front_size;
      back_size = length-set c.loop-machine.back place c.least_between-in-loop-machine.result ∙ i.back_size;
      work_size = length-set c.loop-machine.work place c.time_of_all.result ∙ i.work_size;
      fronts = filled-more (λ k v. v ≡ head c.args.instance.now k) c.loop-machine.front c.loop-machine.machine
          c.least_between.result low (omega (arith, low, high, most, i.front_size)) c.least_between.ensures i.fronts;
      backs = filled-more (λ k v. v ≡ tail c.args.instance.now k) c.loop-machine.back c.loop-machine.machine
          c.least_between-in-loop-machine.result low (omega (arith, low, high, most, i.back_size)) back i.backs;
      works = filled-more (λ k v. v ≡ work c.args.instance.now [] k) c.loop-machine.work c.loop-machine.machine
          c.time_of_all.result low (omega (arith, low, high, most, i.work_size)) c.time_of_all.ensures.value i.works;
    }

pub returns : goal.returns
returns c =
    let past : (k : ℕ) → k ≤ c.args.instance.now.machines → k < c.loop-machine.machine =
    λ k high. omega (arith, high, c.loop-machine-test.false, c.machines-machines.ensures.value) in
    root-node c.args.instance.now
    (record { front = c.loop-machine.front; back = c.loop-machine.back; work = c.loop-machine.work })
    c.machines-machines.ensures.limits
    (λ k low high. c.loop-machine.invariant.fronts k low (past k high))
    (λ k low high. c.loop-machine.invariant.backs k low (past k high))
    (λ k low high. c.loop-machine.invariant.works k low (past k high))
