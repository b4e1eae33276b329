use Rattle.std.proofs.Common.{ℕ, ◌<◌, ◌≤◌, slice_index}
use Rattle.flow_search.proofs.few_left.vectors.are_zeros.Given as goal

-- no number so far is greater
abbrev pub invariant-loop-column : goal.invariant-loop-column
invariant-loop-column l = (k : ℕ) → k < l.column → slice_index l.numbers k ≤ l.most
