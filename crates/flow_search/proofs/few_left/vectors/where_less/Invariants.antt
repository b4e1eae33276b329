use Rattle.std.proofs.Common.{◌≡◌, ℕ, ◌<◌, ◌≤◌, length, slice_index}
use Rattle.flow_search.proofs.few_left.vectors.where_less.Given as goal

abbrev pub invariant-loop-column : goal.invariant-loop-column
invariant-loop-column l = record {
  size : length l.made ≡ 8;
  kept : (k : ℕ) → k < l.column → slice_index l.numbers k < l.limit → slice_index l.made k ≡ slice_index l.flags k;
  cut : (k : ℕ) → k < l.column → l.limit ≤ slice_index l.numbers k → slice_index l.made k ≡ 0;
}
