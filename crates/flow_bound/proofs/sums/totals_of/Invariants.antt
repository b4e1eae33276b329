use Rattle.std.proofs.Common.{◌≡◌, ℕ, ◌-◌, ◌<◌, ◌≤◌, length, slice_index}
use Rattle.flow_limits.specs.Limits.{most_jobs}
use Rattle.flow_bound.specs.Totals.{total}
use Rattle.flow_bound.proofs.sums.totals_of.Given as goal

-- the totals of the jobs so far
abbrev pub invariant-loop-job : goal.invariant-loop-job
invariant-loop-job l = record {
  machines_are : l.machines ≡ l.instance.machines;
  size : length l.totals ≡ most_jobs;
  are : (k : ℕ) → 1 ≤ k → k < l.job → slice_index l.totals (k - 1) ≡ total l.instance k;
}
