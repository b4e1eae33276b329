use Rattle.std.proofs.Common.{◌+◌, length, ap, sym, ◌∙◌, subst}
use Rattle.flow_parts.specs.Orders.{place_at}
use Rattle.flow_parts.specs.internal.Walks.{IsRunTo, onward_of}
use Rattle.flow_parts.proofs.Seeking.{Seeking, seeking-none, seeking-end, seeking-waits, seeking-over, seeking-more}
use Rattle.flow_parts.proofs.walks.waiting_from.Goals.{then-place-eq-SEARCHED, else-place-eq-SEARCHED}
use Rattle.flow_parts.proofs.walks.waiting_from.Goals as goal

pub returns-then-place-eq-WAITS : goal.returns-then-place-eq-WAITS
returns-then-place-eq-WAITS c order begun =
    seeking-waits _ _ _ _ _ _ order (c.places.invariant order begun) c.if-link-eq0.false
    (ap (λ place. place.state) (sym c.place_at-place.ensures) ∙ c.if-place-eq-WAITS.true)

pub places-preserved : goal.places-preserved
places-preserved c order begun =
    let walk = c.places.invariant order begun in
    let read = c.place_at-place.ensures in
    elim c.if-place-eq-SEARCHED.branch [
      | then-place-eq-SEARCHED w ↦
          seeking-more _ _ _ _ _ _ order walk c.if-link-eq0.false (place_at c.if-place-eq-SEARCHED.places)
          c.if-place-eq-SEARCHED.run
          (subst (λ n. IsRunTo (place_at c.places.places) (place_at c.if-place-eq-SEARCHED.places) c.places.run
          c.places.link n) (sym w.run-is)
          (subst (λ places. IsRunTo (place_at c.places.places) (place_at places) c.places.run c.places.link
          w.run_to-run.result) (sym w.places-is) w.run_to-run.ensures))
          (ap (λ place. place.state) (sym read) ∙ w.if-place-eq-SEARCHED.true)
          c.if-place-eq-SEARCHED.link
          (w.link-is ∙ w.onward-link.ensures ∙ ap onward_of read)
      | else-place-eq-SEARCHED w ↦
          subst (λ places. Seeking (place_at c.args.places.now) (place_at places) (length c.args.places.now)
          (c.places._step + 1) c.if-place-eq-SEARCHED.link c.if-place-eq-SEARCHED.run order) (sym w.places-is)
          (subst (λ run. Seeking (place_at c.args.places.now) (place_at c.places.places) (length c.args.places.now)
          (c.places._step + 1) c.if-place-eq-SEARCHED.link run order) (sym w.run-is)
          (seeking-over _ _ _ _ _ _ order walk c.if-link-eq0.false c.if-place-eq-SEARCHED.link
          (λ is. c.if-place-eq-WAITS.false (ap (λ place. place.state) read ∙ is))
          (w.link-is ∙ ap (λ place. place.next) read)))
    ]

pub returns-after-places : goal.returns-after-places
returns-after-places c order begun = seeking-end _ _ _ _ _ _ order (c.places.invariant order begun) c.places-test.false

pub returns-then-link-eq0 : goal.returns-then-link-eq0
returns-then-link-eq0 c order begun =
    seeking-none _ _ _ _ _ _ order (c.places.invariant order begun) c.if-link-eq0.true
