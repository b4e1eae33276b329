use Rattle.std.proofs.Common.{◌≡◌, ℕ, ◌<◌, ◌≤◌, length, slice_index}
use Rattle.flow_search.specs.declared.few_left.group.TheConstants.{GONE}
use Rattle.flow_search.proofs.few_left.entry.gone_from.Given as goal

abbrev pub invariant-loop-column : goal.invariant-loop-column
invariant-loop-column l = record {
  size : length l.made ≡ 8;
  left : (k : ℕ) → k < l.column → k < l.count → slice_index l.made k ≡ 0;
  gone : (k : ℕ) → k < l.column → l.count ≤ k → slice_index l.made k ≡ GONE;
}
