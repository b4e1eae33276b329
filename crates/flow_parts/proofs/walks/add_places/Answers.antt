use Rattle.std.proofs.Common.{◌≡◌, ◌+◌, ◌-◌, ◌<◌, length, refl, sym, subst, arith}
use Rattle.flow_parts.specs.declared.place.Place.{Place}
use Rattle.flow_parts.specs.Orders.{place_at}
use Rattle.flow_parts.proofs.Writing.{IsWritten, written-at, adding-more}
use Rattle.flow_parts.proofs.walks.add_places.Goals as goal

pub places-preserved : goal.places-preserved
places-preserved c room fits =
    let places = c.places.places in
    let here = c.saturating_add-number.result in
    let place : Place = record { written = 0; next = c.places.next; state = 0; skip = 0 } in
    let is : here ≡ c.args.first + (c.places.index - 1) =
    omega (arith, c.saturating_add-number.ensures, fits, c.places.auto.index, c.places-test.true) in
    let within : here < length places =
    omega (arith, is, room, c.places.auto.places, c.places.auto.index, c.places-test.true) in
    adding-more (place_at c.args.places.now) (place_at places) (place_at c.set_place.new.places) c.args.first
    c.args.count (c.places.index - 1) c.places.index here c.args.next c.places.next _ place
    (c.places.invariant room fits) (omega (arith, c.places-test.true)) is
    (omega (arith, c.saturating_add-next.ensures, is, fits, c.places.auto.index, c.places-test.true))
    (subst (λ new. IsWritten (place_at places) (place_at new) here place) (sym c.set_place.ensures)
    (written-at places here place within))
    refl refl refl refl
