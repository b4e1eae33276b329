use Rattle.std.proofs.Common.{sym, subst, arith}
use Rattle.flow_nodes.specs.internal.Bytes.{HaveGaps}
use Rattle.flow_nodes.proofs.bytes.write_gaps.Goals as goal

pub returns-in-Front-clause-gaps : goal.returns-in-Front-clause-gaps
returns-in-Front-clause-gaps c =
    subst (λ end. HaveGaps end c.args.node.now c.write_front_gaps.new.gaps) (sym c.in-Front.is)
    (λ place lane none low within. c.write_front_gaps.ensures.gaps place lane none
    (omega (arith, low, c.write_front_gaps.auto.gaps)) within)

pub returns-in-Back-clause-gaps : goal.returns-in-Back-clause-gaps
returns-in-Back-clause-gaps c =
    subst (λ end. HaveGaps end c.args.node.now c.write_back_gaps.new.gaps) (sym c.in-Back.is)
    (λ place lane none low within. c.write_back_gaps.ensures.gaps place lane none
    (omega (arith, low, c.write_back_gaps.auto.gaps)) within)
