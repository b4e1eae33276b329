use Rattle.std.proofs.Common.{ℕ, List, length}
use Rattle.flow_parts.specs.Orders.{place_at}
use Rattle.flow_parts.specs.internal.Walks.{AreCountable}
use Rattle.flow_parts.proofs.Writing.{Dropping}
use Rattle.flow_parts.proofs.walks.drop_from.Given as goal

abbrev pub invariant-places : goal.invariant-places
invariant-places l =
    (rest : List ℕ) → AreCountable l.fn.places l.fn.start rest →
    Dropping (place_at l.fn.places) (place_at l.places) (length l.fn.places) l._step l.link l.dropped rest
