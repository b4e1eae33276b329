use Rattle.std.proofs.Common.{◌≡◌, ◌≤◌}
use Rattle.test_threads.proofs.lanes.receive_thousand.Given as goal

abbrev pub invariant-receiving : goal.invariant-receiving
invariant-receiving g l = (l.receiver.lane ≡ l.fn.receiver.lane) × (l.next ≤ 1001)
