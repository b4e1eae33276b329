use Rattle.std.proofs.Common.{◌≡◌, ℕ, ◌+◌, ◌-◌, ◌≤◌, length, slice_index}
use Rattle.flow_limits.specs.Limits.{most_machines}
use Rattle.flow_shop.specs.Shop.{time, time_between}
use Rattle.flow_shop.specs.JobSet.{contains}
use Rattle.flow_shop.proofs.JobsLeft.{kept}
use Rattle.flow_bound.proofs.Rests.{least_kept}
use Rattle.flow_bound.proofs.loads.Loads.of.Given as goal

-- the sums and the least tails of the jobs so far that the set has
abbrev pub invariant-loop-job : goal.invariant-loop-job
invariant-loop-job l = record {
  sums_size : length l.sums ≡ most_machines;
  tails_size : length l.tails ≡ most_machines;
  sums_are : (k : ℕ) → 1 ≤ k → k ≤ l.instance.machines →
      slice_index l.sums (k - 1) ≡ kept (λ job. time l.instance job k) (contains l.set) (l.job - 1);
  tails_are : (k : ℕ) → 1 ≤ k → k ≤ l.instance.machines → slice_index l.tails (k - 1)
      ≡ least_kept 4294967295 (λ job. time_between l.instance job (k
      + 1) l.instance.machines) (contains l.set) (l.job - 1);
}
