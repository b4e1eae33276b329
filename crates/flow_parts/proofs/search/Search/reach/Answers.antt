use Rattle.std.proofs.Common.{◌≡◌, ◌+◌, ◌<◌, ◌^◌, length, arith, ap, sym, subst}
use Rattle.flow_parts.specs.Orders.{place_at}
use Rattle.flow_parts.specs.internal.Walks.{AreCountable}
use Rattle.flow_parts.proofs.Writing.{written-at, IsWritten}
use Rattle.flow_parts.proofs.Putting.{IsMade, at-order, countable, reach-is, given-used}
use Rattle.flow_parts.proofs.search.Search.reach.Goals as goal

pub returns : goal.returns
returns c order is given fits reached =
    let before = c.args.self.now in
    let old = c.args.places.now in
    let mid = c.drop_from-dropped.new.places in
    let new = c.set_place.new.places in
    let number = c.args.number in
    let w = c.args.searched.now.written in
    let used = given-used before old number given in
    let at = at-order before old order number c.args.searched.now is given in
    let opens : before.open < 2 ^ 64 = omega arith in
    let writes : before.written < 2 ^ 64 = omega (arith, fits) in
    let ok = countable before old order number c.args.searched.now is given at.0 at.1 at.2 opens writes in
    let next = ap (λ place. place.next) c.place_at-place.ensures in
    let ok_read = subst (λ n. AreCountable old n at.1) (sym next) ok in
    let within : number < length mid = omega (arith, used, is.room, c.drop_from-dropped.auto.places) in
    let link : c.saturating_add-self.result ≡ number + 1 = omega (arith, c.saturating_add-self.ensures, used) in
    reach-is before old order number c.args.searched.now is given at.0 at.1 at.2 c.settle.new.self mid new
    c.drop_from-dropped.result c.saturating_sub-self.result c.saturating_add-self-2.result reached opens fits
    (c.drop_from-dropped.ensures.dropped at.1 ok_read) (c.drop_from-dropped.ensures.counted at.1 ok_read)
    (omega (arith, c.set_place.auto.places, c.drop_from-dropped.auto.places))
    (subst (λ place. IsWritten (place_at mid) (place_at new) number
    (record place { written = w; next = 0; state = 3; skip = 0 })) c.place_at-place.ensures
    (subst (λ places. IsWritten (place_at mid) (place_at places) number
    (record c.place_at-place.result { written = w; next = 0; state = 3; skip = 0 })) (sym c.set_place.ensures)
    (written-at mid number (record c.place_at-place.result { written = w; next = 0; state = 3; skip = 0 }) within)))
    (omega (arith, c.saturating_sub.ensures, c.saturating_sub-self.ensures))
    (λ less. omega (arith, c.saturating_sub-2.ensures, c.saturating_add-self-2.ensures, less))
    (subst (λ n. IsMade before c.settle.new.self new c.saturating_sub-self.result c.saturating_add-self-2.result
    before.places n) link (record { fields = c.settle.ensures }))
