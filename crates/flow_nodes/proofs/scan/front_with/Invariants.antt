use Rattle.std.proofs.Common.{◌≡◌, ℕ, ◌+◌, ◌-◌, ◌<◌, ◌≤◌, length, slice_index}
use Rattle.flow_limits.specs.Limits.{most_machines}
use Rattle.flow_nodes.specs.internal.Scan.{done_at, greatest_to}
use Rattle.flow_nodes.proofs.scan.front_with.Given as goal

-- the machines so far are those of the longer list
abbrev pub invariant-fours : goal.invariant-fours
invariant-fours l = record {
  within : l.at ≤ l.machines;
  long : length l.longer ≡ most_machines;
  size : length l.before ≡ 4;
  before : (lane : ℕ) → lane < 4 →
      slice_index l.before lane ≡ greatest_to (done_at l.fronts l.row.times l.row.tails) l.at;
  done : (place : ℕ) → place < l.at → slice_index l.longer place + slice_index l.row.tails place
      ≡ greatest_to (done_at l.fronts l.row.times l.row.tails) (place + 1);
}

abbrev pub decreases-fours : goal.decreases-fours
decreases-fours l = l.machines + 1 - l.at

abbrev pub invariant-others : goal.invariant-others
invariant-others l = record {
  within : l.at ≤ l.machines;
  long : length l.longer ≡ most_machines;
  size : length l.before ≡ 4;
  before : (lane : ℕ) → lane < 4 →
      slice_index l.before lane ≡ greatest_to (done_at l.fronts l.row.times l.row.tails) l.at;
  done : (place : ℕ) → place < l.at → slice_index l.longer place + slice_index l.row.tails place
      ≡ greatest_to (done_at l.fronts l.row.times l.row.tails) (place + 1);
}

abbrev pub decreases-others : goal.decreases-others
decreases-others l = l.machines - l.at
