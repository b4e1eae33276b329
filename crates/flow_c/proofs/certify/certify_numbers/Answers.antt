use Rattle.std.proofs.lemmas.Result.{IfErr-weaker, IfOk-weaker}
use Rattle.flow_check.specs.Bounds.{AreBounds}
use Rattle.flow_check.proofs.TwoEndedLaws.{two_ended_is_sound}
use Rattle.flow_c.specs.Faults.{shop_of}
use Rattle.flow_c.specs.internal.Around.{with_directions}
use Rattle.flow_c.proofs.Asked.{is-refused}
use Rattle.flow_c.proofs.certify.certify_numbers.Goals as goal

pub returns-clause-bounds : goal.returns-clause-bounds
returns-clause-bounds c =
    let shop = shop_of c.args.shop.now in
    IfOk-weaker c.certify_from.result _ (λ found. AreBounds shop found.bounds)
    (λ found is. (two_ended_is_sound shop (with_directions found.around.bytes found.directions.items) found.bounds
    found.sequence is.lawful).hold)
    (rw c.in_ok-instance.ensures.value at c.certify_from.ensures.text)

pub returns-clause-refused : goal.returns-clause-refused
returns-clause-refused c =
    let a = c.args in
    IfErr-weaker c.certify_from.result _ _
    (λ fault is. is-refused a.shop.now a.start.now a.effort.now a.directions a.entries.sequence
    c.in_ok-instance.ensures.accepted (rw c.in_ok-instance.ensures.value at c.in_ok-start.ensures.accepted)
    c.in_ok-effort.ensures.accepted (rw (c.from.ensures, c.from-2.ensures) at c.in_ok-most.ensures.accepted)
    c.in_ok-need.ensures.accepted a.entries.text fault is)
    (rw (c.in_ok-instance.ensures.value, c.in_ok-start.ensures.value, c.in_ok-most.ensures.same, c.from.ensures)
    at c.certify_from.ensures.refused)
