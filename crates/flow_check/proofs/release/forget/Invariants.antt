use Rattle.std.proofs.Common.{◌≡◌, ℕ, ◌<◌, length, slice_index_or, None}
use Rattle.flow_check.proofs.release.forget.Given as goal

abbrev pub invariant-loop-place : goal.invariant-loop-place
invariant-loop-place l = record {
  size : length l.lags ≡ length l.fn.lags;
  none : (place : ℕ) → place < l.place → slice_index_or l.lags place None ≡ None;
}
