use Rattle.flow_shop.specs.Limits.{most_machines}
use Rattle.std.proofs.Common.{replicate, arith, rules}
use Rattle.flow_shop.proofs.Fronts.{front-empty}
use Rattle.flow_check.proofs.NodeSteps.{root-node}
use Rattle.flow_check.proofs.node.ListNode.root.Goals as goal

pub returns : goal.returns
returns c =
    root-node c.args.instance.now (record {
      front =
          replicate most_machines 0;
      work =
          c.loop-machine.work;
      tails = c.none.result;
    }) c.machines-machines.ensures.limits
    (λ machine from to. front-empty c.args.instance.now machine)
    (λ machine from to. c.loop-machine.invariant.done machine from (omega
    (arith, to, c.loop-machine-test.false, c.machines-machines.ensures.value)))
    c.loop-machine.invariant.size (c.none.ensures (λ place job. 0) most_machines (omega arith))
    (search rules) (search rules)
