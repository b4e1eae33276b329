use Rattle.std.proofs.Common.{arith}
use Rattle.flow_text.proofs.Begins.{goes-on}
use Rattle.flow_text.proofs.bytes.all_bytes.may_come.Goals.{then-begin_so, else-begin_so}
use Rattle.flow_text.proofs.bytes.all_bytes.may_come.Goals as goal

pub overflow_sub-result : goal.overflow_sub-result
overflow_sub-result c = elim c.if-begin_so.branch [
  | then-begin_so w ↦ omega (arith, w.most-is, c.requires.within.0)
  | else-begin_so w ↦
      let other = c.begin_so.ensures.no w.if-begin_so.false in
      let few = c.requires.within.1 (λ begins. other (goes-on _ _ _ begins)) in
      omega (arith, w.most-is, few)
]
