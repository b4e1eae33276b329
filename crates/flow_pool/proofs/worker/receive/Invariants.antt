use Rattle.std.proofs.Common.{◌≡◌}
use Rattle.flow_pool.proofs.worker.receive.Given as goal

abbrev pub invariant-loop : goal.invariant-loop
invariant-loop g l =
    (goal.iterator-loop g).can_next l.iterator' × (goal.iterator-loop g).is_finite l.iterator'
    × (l.lane.lane ≡ l.fn.lane.lane) × (l.lane.received ≡ l.fn.lane.received)
