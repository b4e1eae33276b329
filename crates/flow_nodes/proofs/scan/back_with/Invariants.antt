use Rattle.std.proofs.Common.{◌≡◌, ℕ, ◌+◌, ◌-◌, ◌%◌, ◌<◌, ◌≤◌, length, slice_index}
use Rattle.flow_limits.specs.Limits.{most_machines}
use Rattle.flow_nodes.specs.internal.Scan.{begun_at, greatest_from}
use Rattle.flow_nodes.proofs.scan.back_with.Given as goal

-- the machines so far, from the last one on, are those of the longer list
abbrev pub invariant-others : goal.invariant-others
invariant-others l = record {
  within : l.end ≤ l.machines;
  long : length l.longer ≡ most_machines;
  size : length l.behind ≡ 4;
  same : (lane : ℕ) → lane < 4 → slice_index l.behind lane ≡ slice_index l.behind 0;
  behind : slice_index l.behind 0 ≡ greatest_from (begun_at l.backs l.row.tails) (l.machines - l.end) l.end;
  done : (place : ℕ) → l.end ≤ place → place < l.machines → slice_index l.longer place + 26000000
      ≡ greatest_from (begun_at l.backs l.row.tails) (l.machines - place) place
      + (slice_index l.row.times place + slice_index l.row.tails place);
}

abbrev pub decreases-others : goal.decreases-others
decreases-others l = l.end

abbrev pub invariant-fours : goal.invariant-fours
invariant-fours l = record {
  within : l.end ≤ l.machines;
  whole : l.end % 4 ≡ 0;
  size : length l.behind ≡ 4;
  same : (lane : ℕ) → lane < 4 → slice_index l.behind lane ≡ slice_index l.behind 0;
  behind : slice_index l.behind 0 ≡ greatest_from (begun_at l.backs l.row.tails) (l.machines - l.end) l.end;
  done : (place : ℕ) → l.end ≤ place → place < l.machines → slice_index l.longer place + 26000000
      ≡ greatest_from (begun_at l.backs l.row.tails) (l.machines - place) place
      + (slice_index l.row.times place + slice_index l.row.tails place);
}

abbrev pub decreases-fours : goal.decreases-fours
decreases-fours l = l.end
