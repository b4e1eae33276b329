use Rattle.std.proofs.Common.{◌≢◌, ℕ, ◌<◌, ◌≤◌, List, slice_index}
use Rattle.flow_shop.specs.Bound.{bound_at, released_bound_at}
use Rattle.flow_search.specs.internal.Columns.{IsTested, IsColumnLeft, child}
use Rattle.flow_search.proofs.ColumnsPassed.{IsPassed}
use Rattle.flow_search.proofs.few_left.releases.unpruned_by_releases.Given as goal

-- after some machines
abbrev pub invariant-loop-place : goal.invariant-loop-place
invariant-loop-place l = record {
  unpruned_small : (column : ℕ) → column < 8 → slice_index l.unpruned column ≤ l.place;
  flags_small : (column : ℕ) → column < 8 → slice_index l.flags column ≤ 1;
  passed : (list : List ℕ) (column other : ℕ) → IsTested l.instance bound_at list l.group l.frame → IsColumnLeft l.frame
      column → IsColumnLeft l.frame other → other ≢ column →
      IsPassed l.instance released_bound_at (child list l.group column) l.frame.value l.place
      (slice_index l.unpruned column)
      (slice_index l.flags column);
}
