use Rattle.std.proofs.Common.{◌≡◌}
use Rattle.flow_pool.proofs.worker.send.Given as goal

abbrev pub invariant-loop : goal.invariant-loop
invariant-loop g l =
    (goal.iterator-loop g).can_next l.iterator' × (goal.iterator-loop g).is_finite l.iterator'
    × (l.lane.lane ≡ l.fn.lane.lane) × (l.lane.sent ≡ l.fn.lane.sent) × (l.item ≡ l.fn.item)
