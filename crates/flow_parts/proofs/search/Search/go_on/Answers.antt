use Rattle.std.proofs.Common.{◌≡◌, ◌<◌, ◌∙◌, length, arith, ap, sym, subst}
use Rattle.flow_parts.specs.Orders.{place_at}
use Rattle.flow_parts.specs.internal.Walks.{AreAdded, start_of}
use Rattle.flow_parts.proofs.Writing.{written-at, IsWritten}
use Rattle.flow_parts.proofs.Putting.{at-order, go-on-is, given-used, open-few}
use Rattle.flow_parts.proofs.search.Search.go_on.Goals as goal

pub returns : goal.returns
returns c order is given fits reached room small =
    let before = c.args.self.now in
    let old = c.args.places.now in
    let mid = c.add_places.new.places in
    let new = c.set_place.new.places in
    let number = c.args.number in
    let searched = c.args.searched.now in
    let read = c.place_at-place.result in
    let used = given-used before old number given in
    let at = at-order before old order number searched is given in
    let left : c.from-left.result ≡ searched.left = c.from-left.ensures in
    let next : read.next ≡ (place_at old number).next = ap (λ place. place.next) c.place_at-place.ensures in
    let adds = subst (λ n. AreAdded (place_at old) (place_at mid) before.places searched.left n) next
    (subst (λ k. AreAdded (place_at old) (place_at mid) before.places k read.next) left
    (c.add_places.ensures (omega (arith, room, left)) (omega (arith, small, left)))) in
    let start : c.start_of.result ≡ start_of before.places searched.left (place_at old number).next =
    c.start_of.ensures (omega (arith, small, left))
    ∙ ap (λ k. start_of before.places k read.next) left
    ∙ ap (λ n. start_of before.places searched.left n) next in
    let within : number < length mid = omega (arith, used, is.room, c.add_places.auto.places) in
    go-on-is before old order number searched is given at.0 at.1 at.2 c.settle.new.self mid new
    c.saturating_add-self-2.result c.saturating_add-self-3.result c.saturating_add-self.result
    reached fits room adds (omega (arith, c.set_place.auto.places, c.add_places.auto.places))
    (subst (λ n. IsWritten (place_at mid) (place_at new) number
    (record (place_at old number) { written = searched.written; next = n; state = 2; skip = 0 })) start
    (subst (λ place. IsWritten (place_at mid) (place_at new) number
    (record place { written = searched.written; next = c.start_of.result; state = 2; skip = 0 })) c.place_at-place.ensures
    (subst (λ places. IsWritten (place_at mid) (place_at places) number
    (record read { written = searched.written; next = c.start_of.result; state = 2; skip = 0 })) (sym c.set_place.ensures)
    (written-at mid number (record read { written = searched.written; next = c.start_of.result; state = 2; skip = 0 }) within))))
    (omega (
      arith,
      c.saturating_sub.ensures,
      c.saturating_add-self-2.ensures,
      left,
      is.few,
      small,
      is.opened,
      open-few (place_at old) order,
    ))
    (omega (arith, c.saturating_add-self-3.ensures, fits))
    (omega (arith, c.saturating_add-self.ensures, small, left))
    (record { fields = c.settle.ensures })
