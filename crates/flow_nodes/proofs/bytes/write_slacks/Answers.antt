use Rattle.std.proofs.Common.{◌+◌, ◌-◌, slice_index, arith}
use Rattle.flow_nodes.specs.Vectors.{HasLane}
use Rattle.flow_nodes.proofs.ByteSteps.{more-written}
use Rattle.flow_nodes.proofs.bytes.write_slacks.Goals as goal

pub machines-preserved : goal.machines-preserved
machines-preserved c = record {
  within = omega (arith, c.slacks_from-at.ensures.within, c.slacks_from-at.auto.slacks);
  done = λ place lane none low within. more-written
      (λ p v. HasLane 255 16 v lane (c.args.limit - 1
      - (slice_index c.args.node.now.front p + slice_index c.args.node.now.work p + slice_index c.args.node.now.back p)))
      c.machines.slacks c.slacks_from-at.new.slacks c.machines.at c.slacks_from-at.result none
      (λ p under. c.machines.invariant.done p lane none under within)
      (λ p under. c.slacks_from-at.ensures.before p none under)
      (λ p above under. c.slacks_from-at.ensures.slacks p lane none above under within) place low;
}

pub returns-clause-slacks : goal.returns-clause-slacks
returns-clause-slacks c place lane none low within =
    c.machines.invariant.done place lane none
    (omega (arith, low, c.machines-test.false, c.machines.auto.slacks)) within
