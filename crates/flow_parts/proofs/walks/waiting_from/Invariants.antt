use Rattle.std.proofs.Common.{ℕ, List, length}
use Rattle.flow_parts.specs.Orders.{place_at}
use Rattle.flow_parts.specs.internal.Walks.{IsBegun}
use Rattle.flow_parts.proofs.Seeking.{Seeking}
use Rattle.flow_parts.proofs.walks.waiting_from.Given as goal

abbrev pub invariant-places : goal.invariant-places
invariant-places l =
    (order : List ℕ) → IsBegun l.fn.places l.fn.start order →
    Seeking (place_at l.fn.places) (place_at l.places) (length l.fn.places) l._step l.link l.run order
