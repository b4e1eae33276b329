use Rattle.std.proofs.Common.{◌≡◌, ◌≢◌, ℕ, ◌+◌, ◌*◌, ◌<◌, ◌≤◌, List, [], length, slice_index, slice_index_or}
use Rattle.flow_limits.specs.Limits.{most_machines, greatest_time, greatest_completion}
use Rattle.flow_shop.specs.Paths.{completion}
use Rattle.flow_shop.specs.Bound.{bound_at}
use Rattle.flow_search.specs.internal.Columns.{IsFrameOf, IsColumnLeft, child}
use Rattle.flow_search.proofs.ColumnsPassed.{IsPassed}
use Rattle.flow_search.proofs.few_left.children.test_plain.Given as goal

-- after some machines
abbrev pub invariant-loop-place : goal.invariant-loop-place
invariant-loop-place l = record {
  front : l.frame.front ≡ l.fn.frame.front;
  sum : l.frame.sum ≡ l.fn.frame.sum;
  gone : l.frame.gone ≡ l.fn.frame.gone;
  columns : l.frame.columns ≡ l.fn.frame.columns;
  next : l.frame.next ≡ l.fn.frame.next;
  size : length l.frame.free ≡ most_machines;
  free_small : (column : ℕ) → column < 8 → slice_index l.free column ≤ greatest_completion + l.place * greatest_time;
  unpruned_small : (column : ℕ) → column < 8 → slice_index l.unpruned column ≤ l.place;
  flags_small : (column : ℕ) → column < 8 → slice_index l.flags column ≤ 1;
  free : (list : List ℕ) (column : ℕ) → IsFrameOf l.instance list l.group l.fn.frame → IsColumnLeft l.fn.frame column →
      slice_index l.free column ≡ completion l.instance (child list l.group column) l.place;
  passed : (list : List ℕ) (column other : ℕ) → IsFrameOf l.instance list l.group l.fn.frame → IsColumnLeft l.fn.frame
      column → IsColumnLeft l.fn.frame other → other ≢ column →
      IsPassed l.instance bound_at (child list l.group column) l.value l.place (slice_index l.unpruned column)
      (slice_index l.flags column);
  done_small : (place column : ℕ) → place < l.place → column < 8 →
      slice_index (slice_index_or l.frame.free place []) column ≤ greatest_completion + most_machines * greatest_time;
  done : (list : List ℕ) (place column : ℕ) → IsFrameOf l.instance list l.group l.fn.frame →
      IsColumnLeft l.fn.frame column
      → place < l.place →
      slice_index (slice_index_or l.frame.free place []) column ≡ completion l.instance (child list l.group column)
      (place + 1);
}
