use Rattle.std.proofs.Common.{◌≡◌, ◌≢◌, ℕ, ◌+◌, ◌*◌, ◌<◌, ◌≤◌, max, List, [], map, slice_index, slice_index_or}
use Rattle.flow_limits.specs.Limits.{most_machines, greatest_time, greatest_completion}
use Rattle.flow_shop.specs.Shop.{numbers}
use Rattle.flow_shop.specs.Least.{greatest}
use Rattle.flow_shop.specs.Sequences.{jobs_left}
use Rattle.flow_shop.specs.Bound.{front_of}
use Rattle.flow_search.specs.internal.Columns.{IsOpened, IsColumnLeft, child}
use Rattle.flow_search.specs.declared.few_left.group.TheConstants.{GONE}
use Rattle.flow_bound.proofs.Releases.{start_from}
use Rattle.flow_search.proofs.few_left.releases.releases.Given as goal

-- the greatest start from the machines so far
abbrev pub invariant-loop-earlier : goal.invariant-loop-earlier
invariant-loop-earlier l = record {
  small : (column : ℕ) → column < 8 →
      slice_index l.late column ≤ greatest_completion + most_machines * greatest_time + greatest_time + GONE;
  each : (list : List ℕ) (column other : ℕ) → IsOpened l.instance list l.group l.frame → IsColumnLeft l.frame column →
      IsColumnLeft l.frame other → other ≢ column →
      slice_index l.late column ≡ max (slice_index (slice_index_or l.frame.free l.place []) column)
      (greatest (map (start_from l.instance (front_of l.instance (child list l.group column))
      (jobs_left l.instance.jobs (child list l.group column)) (l.place + 1)) (numbers 1 l.earlier)));
}
