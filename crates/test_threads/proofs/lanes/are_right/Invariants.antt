use Rattle.std.proofs.Common.{◌≡◌}
use Rattle.test_threads.proofs.lanes.are_right.Given as goal

abbrev pub invariant-steps : goal.invariant-steps
invariant-steps l = l.sender.lane ≡ l.receiver.lane
