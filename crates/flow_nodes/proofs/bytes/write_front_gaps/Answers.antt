use Rattle.std.proofs.Common.{◌-◌, slice_index, arith}
use Rattle.flow_nodes.specs.Vectors.{HasLane}
use Rattle.flow_nodes.proofs.ByteSteps.{more-written}
use Rattle.flow_nodes.proofs.bytes.write_front_gaps.Goals as goal

pub machines-preserved : goal.machines-preserved
machines-preserved c = record {
  within = omega (arith, c.front_gaps_from-at.ensures.within, c.front_gaps_from-at.auto.gaps);
  done = λ place lane none low within. more-written
      (λ p v. HasLane 255 16 v lane (slice_index c.args.fronts.now p - slice_index c.args.fronts.now (p - 1)))
      c.machines.gaps c.front_gaps_from-at.new.gaps c.machines.at c.front_gaps_from-at.result none
      (λ p under. c.machines.invariant.done p lane none under within) (λ p under. c.front_gaps_from-at.ensures.before p none under)
      (λ p above under. c.front_gaps_from-at.ensures.gaps p lane none above under within) place low;
}

pub returns : goal.returns
returns c = record {
  gaps = λ place lane none low within. c.machines.invariant.done place lane none
      (omega (arith, low, c.machines-test.false, c.machines.auto.gaps)) within;
}
