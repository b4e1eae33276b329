use Rattle.std.proofs.Common.{◌+◌, ◌<◌, ◌≤◌, ◌^◌, length}
use Rattle.flow_parts.specs.Orders.{place_at}
use Rattle.flow_parts.proofs.Writing.{Adding}
use Rattle.flow_parts.proofs.walks.add_places.Given as goal

abbrev pub invariant-places : goal.invariant-places
invariant-places l =
    l.fn.first + l.fn.count ≤ length l.fn.places → l.fn.first + l.fn.count < 2 ^ 64 →
    Adding (place_at l.fn.places) (place_at l.places) l.fn.first l.fn.count l.index l.fn.next l.next
