use Rattle.std.proofs.Common.{◌≡◌, ℕ, ◌<◌, max, length, slice_index}
use Rattle.flow_search.proofs.few_left.vectors.greater.Given as goal

abbrev pub invariant-loop-column : goal.invariant-loop-column
invariant-loop-column l = record {
  size : length l.made ≡ 8;
  each : (k : ℕ) → k < l.column → slice_index l.made k ≡ max (slice_index l.numbers k) (slice_index l.others k);
}
