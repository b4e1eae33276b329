use Rattle.std.proofs.Common.{ℕ, ◌<◌, ◌≤◌, length, slice_index}
use Rattle.flow_bound.proofs.start.insertion_room.earliest_least.Given as goal

-- the best of the places so far
abbrev pub invariant-loop-place : goal.invariant-loop-place
invariant-loop-place l = record {
  within : l.best < length l.spans;
  before : l.best ≤ l.place;
  least : (place : ℕ) → place < l.place → slice_index l.spans l.best ≤ slice_index l.spans place;
  earliest : (place : ℕ) → place < l.best → slice_index l.spans l.best < slice_index l.spans place;
}
