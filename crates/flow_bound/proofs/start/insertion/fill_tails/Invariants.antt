use Rattle.std.proofs.Common.{ℕ, ◌≤◌, [], drop, length, slice_index_or}
use Rattle.flow_bound.specs.internal.Tails.{AreTails}
use Rattle.flow_bound.proofs.start.insertion.fill_tails.Given as goal

-- the places so far, from the last one on, have their tails
abbrev pub invariant-loop-place : goal.invariant-loop-place
invariant-loop-place l = record {
  within : l.place ≤ length l.partial;
  behind : AreTails l.instance (drop l.place l.partial) l.behind;
  done : (place : ℕ) → l.place ≤ place → place ≤ length l.partial →
      AreTails l.instance (drop place l.partial) (slice_index_or l.tails place []);
}
