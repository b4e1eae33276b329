use Rattle.std.proofs.Common.{◌≡◌, ℕ, ◌+◌, ◌-◌, ◌*◌, ◌<◌, ◌≤◌, List, ◌∷◌, length, slice_index}
use Rattle.flow_limits.specs.Limits.{most_machines, greatest_time, greatest_completion}
use Rattle.flow_shop.specs.Ends.{path_tail}
use Rattle.flow_bound.specs.internal.Tails.{AreTails}
use Rattle.flow_bound.proofs.start.insertion.push_tails.Given as goal

-- the machines so far, from the last one on, have the tails of the longer list, and the others as they were
abbrev pub invariant-loop-place : goal.invariant-loop-place
invariant-loop-place l = record {
  within : l.place ≤ l.instance.machines;
  row_length : length l.row ≡ most_machines;
  length : length l.tails ≡ most_machines;
  small : l.behind + l.place * greatest_time ≤ greatest_completion + l.instance.machines * greatest_time;
  behind : (jobs : List ℕ) → AreTails l.instance jobs l.initial.tails →
      l.behind ≡ path_tail l.instance (l.job ∷ jobs) (l.place + 1);
  done : (jobs : List ℕ) → AreTails l.instance jobs l.initial.tails → (machine : ℕ) → l.place < machine →
      machine ≤ l.instance.machines → slice_index l.tails (machine - 1) ≡ path_tail l.instance (l.job ∷ jobs) machine;
  written : (jobs : List ℕ) → AreTails l.instance jobs l.initial.tails → (machine : ℕ) → l.place < machine →
      machine ≤ l.instance.machines → slice_index l.row (machine - 1) ≡ path_tail l.instance (l.job ∷ jobs) machine;
  others : (place : ℕ) → place < l.place → slice_index l.tails place ≡ slice_index l.initial.tails place;
}
