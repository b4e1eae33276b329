use Rattle.std.proofs.Common.{ℕ, ◌+◌, ◌<◌, ◌≤◌, ◌^◌, List, length}
use Rattle.flow_parts.specs.Orders.{IsLinked, place_at, settled_in}
use Rattle.flow_parts.proofs.Walking.{Settling}
use Rattle.flow_parts.proofs.walks.settle_from.Given as goal

abbrev pub invariant-places : goal.invariant-places
invariant-places l =
    (rest : List ℕ) → IsLinked (λ number. (place_at l.places number).next) l.fn.settled.first_open rest →
    length rest ≤ length l.places → l.fn.settled.written + settled_in (place_at l.places) rest < 2 ^ 64 →
    Settling (place_at l.places) (length l.places) l._step l.fn.settled l.settled rest
