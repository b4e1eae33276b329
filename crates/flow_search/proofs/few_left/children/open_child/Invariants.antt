use Rattle.std.proofs.Common.{◌≡◌, ℕ, ◌-◌, ◌<◌, [], length, slice_index, slice_index_or}
use Rattle.flow_limits.specs.Limits.{most_machines}
use Rattle.flow_search.proofs.few_left.children.open_child.Given as goal

-- the machines so far are those of the child
abbrev pub invariant-loop-row : goal.invariant-loop-row
invariant-loop-row l = record {
  front_size : length l.made.front ≡ most_machines;
  sum_size : length l.made.sum ≡ most_machines;
  front : (k : ℕ) → k < l.row → slice_index l.made.front k ≡ slice_index (slice_index_or l.parent.free k []) l.column;
  sum : (k : ℕ) → k < l.row → slice_index l.made.sum k
      ≡ slice_index l.parent.sum k - slice_index (slice_index_or l.group.rows k (record { time = []; tail = [] })).time
      l.column;
}
