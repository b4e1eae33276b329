use Rattle.std.proofs.Common.{◌≡◌, ℕ, ◌<◌, ◌≤◌, length, slice_index}
use Rattle.flow_limits.specs.Limits.{greatest_time}
use Rattle.flow_shop.specs.Shop.{time}
use Rattle.flow_search.proofs.few_left.entry.times_of.Given as goal

abbrev pub invariant-loop-column : goal.invariant-loop-column
invariant-loop-column l = record {
  size : length l.made ≡ 8;
  each : (k : ℕ) → k < l.column → slice_index l.made k ≡ time l.instance (slice_index l.jobs k) l.machine;
  small : (k : ℕ) → k < 8 → slice_index l.made k ≤ greatest_time;
}
