use Rattle.std.proofs.Common.{◌≡◌, subst, sym, take}
use Rattle.flow_c.specs.Certify.{IsTextFrom}
use Rattle.flow_c.specs.Faults.{shop_of}
use Rattle.flow_c.specs.Rooms.{bounds_in}
use Rattle.flow_c.specs.internal.Around.{with_directions}
use Rattle.flow_c.proofs.certify.flowshop_certify.Goals as goal

-- the first bytes of the slice are the text, and the first entries of the other the jobs
pub returns-in-Ok-clause-text : goal.returns-in-Ok-clause-text
returns-in-Ok-clause-text c =
    let shop = shop_of c.args.shop.now in
    let found = c.in-Ok.found in
    let is : take c.put-text.result c.put-text.new.room ≡ with_directions found.around.bytes found.directions.items =
    cc (c.put-text.ensures.front, c.bytes.ensures.value, c.as_slice.ensures.value) in
    let are : take c.args.shop.now.jobs c.put.new.self.sequence.now ≡ found.sequence =
    cc (c.put.ensures.sequence, c.in-Ok.ensures.each.whole) in
    λ done. subst (λ jobs. IsTextFrom shop c.args.start.now c.args.directions (take c.put-text.result
    c.put-text.new.room)
    (bounds_in c.put.new.self) jobs) (sym are)
    (subst (λ text. IsTextFrom shop c.args.start.now c.args.directions text (bounds_in c.put.new.self) found.sequence)
    (sym is)
    (subst (λ bounds. IsTextFrom shop c.args.start.now c.args.directions
    (with_directions found.around.bytes found.directions.items) bounds found.sequence) (sym c.put.ensures.bounds)
    c.in-Ok.ensures.text))
