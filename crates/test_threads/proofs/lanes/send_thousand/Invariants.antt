use Rattle.std.proofs.Common.{◌≡◌, ◌≤◌}
use Rattle.test_threads.proofs.lanes.send_thousand.Given as goal

abbrev pub invariant-sending : goal.invariant-sending
invariant-sending g l = (l.sender.lane ≡ l.fn.sender.lane) × (l.next ≤ 1001)
