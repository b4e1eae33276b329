use Rattle.std.proofs.Common.{◌-◌, ◌<◌, length, ap, sym, ◌∙◌, subst, arith}
use Rattle.flow_parts.specs.Orders.{place_at, open_in, counted_in}
use Rattle.flow_parts.proofs.Sums.{sum-fits}
use Rattle.flow_parts.proofs.Writing.{IsWritten, written-at, dropping-none, dropping-within, dropping-more}
use Rattle.flow_parts.proofs.walks.drop_from.Goals as goal

pub places-preserved : goal.places-preserved
places-preserved c rest ok =
    let places = c.places.places in
    let here = c.places.link - 1 in
    let read = c.place_at-place.result in
    let walk = c.places.invariant rest ok in
    let within : here < length places = omega (
      arith,
      c.places.auto.places,
      dropping-within _ _ _ _ _ _ rest walk (length c.args.places.now) ok.within c.if-link-eq0.false,
    ) in
    dropping-more (place_at c.args.places.now) (place_at places) (place_at c.set_place.new.places) _ _ _ _ _ _ rest _
    walk ok.linked c.if-link-eq0.false
    (subst (λ place. IsWritten (place_at places) (place_at c.set_place.new.places) here (record place { state = 4 }))
    c.place_at-place.ensures
    (subst (λ new. IsWritten (place_at places) (place_at new) here (record read { state = 4 }))
    (sym c.set_place.ensures) (written-at places here (record read { state = 4 }) within)))
    ok.opened ok.written
    (sum-fits _ _ _ _ c.saturating_add.ensures (c.open.ensures ∙ ap open_in c.place_at-place.ensures))
    (sum-fits _ _ _ _ c.saturating_add-in-places.ensures (c.counted.ensures ∙ ap counted_in c.place_at-place.ensures))
    (ap (λ place. place.next) c.place_at-place.ensures)

pub returns-then-link-eq0-clause-dropped : goal.returns-then-link-eq0-clause-dropped
returns-then-link-eq0-clause-dropped c rest ok =
    (dropping-none _ _ _ _ _ _ rest (c.places.invariant rest ok) c.if-link-eq0.true).0

pub returns-then-link-eq0-clause-counted : goal.returns-then-link-eq0-clause-counted
returns-then-link-eq0-clause-counted c rest ok =
    (dropping-none _ _ _ _ _ _ rest (c.places.invariant rest ok) c.if-link-eq0.true).1
