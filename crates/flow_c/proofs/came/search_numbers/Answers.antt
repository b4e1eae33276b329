use Rattle.std.proofs.Common.{inl, inr}
use Rattle.std.proofs.lemmas.Result.{IfErr-weaker}
use Rattle.flow_c.proofs.Told.{no-prove-fault}
use Rattle.flow_c.proofs.came.search_numbers.Goals as goal

pub returns-clause-refused : goal.returns-clause-refused
returns-clause-refused g c =
    let none = no-prove-fault c.args.shop.now c.args.node.now _ c.in_ok-instance.ensures.accepted
    (rw c.in_ok-instance.ensures.value at c.in_ok-test.ensures.accepted)
    c.in_ok-need.ensures.accepted in
    IfErr-weaker c.search.result _ _
    (λ fault is. elim is [
      | inl ran_out ↦ inl ran_out
      | inr long ↦ inr (inr (none, long))
    ])
    (rw c.in_ok-instance.ensures.value at c.search.ensures.refused)

pub returns-clause-found : goal.returns-clause-found
returns-clause-found g c = rw c.in_ok-instance.ensures.value at c.search.ensures.found
