use Rattle.std.proofs.Common.{◌≡◌, ℕ, ◌+◌, ◌<◌, ◌≤◌, length, slice_index}
use Rattle.flow_search.proofs.few_left.vectors.without_place.Given as goal

-- the places so far are filled
abbrev pub invariant-loop-k : goal.invariant-loop-k
invariant-loop-k l = record {
  size : length l.made ≡ 8;
  before : (i : ℕ) → i < l.k → i < l.place → slice_index l.made i ≡ slice_index l.numbers i;
  behind : (i : ℕ) → i < l.k → l.place ≤ i → i < 7 → slice_index l.made i ≡ slice_index l.numbers (i + 1);
}
