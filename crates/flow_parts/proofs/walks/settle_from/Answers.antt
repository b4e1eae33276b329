use Rattle.std.proofs.Common.{ap, sym, ◌∙◌}
use Rattle.flow_parts.specs.Orders.{is_open}
use Rattle.flow_parts.proofs.Sums.{sum-fits}
use Rattle.flow_parts.proofs.Walking.{settling-none, settling-open, settling-more}
use Rattle.flow_parts.proofs.walks.settle_from.Goals as goal

pub places-preserved : goal.places-preserved
places-preserved c rest linked short fits =
    settling-more _ _ _ _ _ rest (c.places.invariant rest linked short fits) _ c.if-settled-eq0.false
    (ap is_open (sym c.place_at-place.ensures) ∙ sym c.is_open.ensures ∙ c.if-is_open.false) fits
    (sum-fits _ _ _ _ c.saturating_add.ensures (ap (λ place. place.written) c.place_at-place.ensures))
    (ap (λ place. place.next) c.place_at-place.ensures)

pub returns-then-settled-eq0 : goal.returns-then-settled-eq0
returns-then-settled-eq0 c rest linked short fits =
    settling-none _ _ _ _ _ rest (c.places.invariant rest linked short fits) c.if-settled-eq0.true

pub returns-then-is_open : goal.returns-then-is_open
returns-then-is_open c rest linked short fits =
    settling-open _ _ _ _ _ rest (c.places.invariant rest linked short fits) c.if-settled-eq0.false
    (ap is_open (sym c.place_at-place.ensures) ∙ sym c.is_open.ensures ∙ c.if-is_open.true)
