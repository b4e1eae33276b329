use Rattle.std.proofs.Common.{◌+◌, ◌-◌, min, slice_index, arith}
use Rattle.flow_nodes.specs.Vectors.{HasLane}
use Rattle.flow_nodes.proofs.ByteSteps.{more-written}
use Rattle.flow_nodes.proofs.bytes.write_back_gaps.Goals as goal

pub machines-preserved : goal.machines-preserved
machines-preserved c = record {
  within = omega (arith, c.back_gaps_from-at.ensures.within, c.back_gaps_from-at.auto.gaps);
  done = λ place lane none low within. more-written
      (λ p v. HasLane 255 16 v lane (slice_index c.args.backs.now p - slice_index c.args.backs.now (min (p + 1) 25)))
      c.machines.gaps c.back_gaps_from-at.new.gaps c.machines.at c.back_gaps_from-at.result none
      (λ p under. c.machines.invariant.done p lane none under within) (λ p under. c.back_gaps_from-at.ensures.before p none under)
      (λ p above under. c.back_gaps_from-at.ensures.gaps p lane none above under within) place low;
}

pub returns : goal.returns
returns c = record {
  gaps = λ place lane none low within. c.machines.invariant.done place lane none
      (omega (arith, low, c.machines-test.false, c.machines.auto.gaps)) within;
}
