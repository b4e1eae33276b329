use Rattle.std.proofs.Common.{◌≡◌, ℕ, ◌<◌, ◌≤◌, true, false, length}
use Rattle.flow_limits.specs.Limits.{most_jobs}
use Rattle.flow_shop.specs.JobSet.{contains}
use Rattle.flow_shop.proofs.job_set.JobSet.all.Given as goal

-- the jobs so far are in, and no other
abbrev pub invariant-loop-job : goal.invariant-loop-job
invariant-loop-job l = record {
  inside : (k : ℕ) → 1 ≤ k → k < l.job → contains l.set k ≡ true;
  outside : (k : ℕ) → l.job ≤ k → contains l.set k ≡ false;
  size : length l.set ≡ most_jobs;
}
