use Rattle.std.proofs.Common.{◌≡◌, ℕ, ◌+◌, ◌-◌, ◌<◌, slice_index}
use Rattle.flow_nodes.proofs.scan.work_without.Given as goal

-- the machines so far
abbrev pub invariant-fours : goal.invariant-fours
invariant-fours l = record {
  done : (place : ℕ) → place < l.at → place < l.machines →
      slice_index l.fewer place + slice_index l.times place ≡ slice_index l.works place;
}

abbrev pub decreases-fours : goal.decreases-fours
decreases-fours l = l.machines - l.at
