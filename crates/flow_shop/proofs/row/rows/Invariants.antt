use Rattle.std.proofs.Common.{◌≡◌, ℕ, ◌+◌, ◌-◌, ◌<◌, ◌≤◌, slice_index_or, vec_len}
use Rattle.flow_shop.specs.Rows.{IsRow}
use Rattle.flow_shop.specs.declared.row.Row.{Row}
use Rattle.flow_shop.proofs.row.rows.Given as goal

abbrev pub invariant-loop-job : goal.invariant-loop-job
invariant-loop-job l = record {
  count : vec_len l.rows + 1 ≡ l.job;
  each : (job : ℕ) (other : Row) → 1 ≤ job → job < l.job →
      IsRow l.instance job (slice_index_or l.rows.items (job - 1) other);
}
