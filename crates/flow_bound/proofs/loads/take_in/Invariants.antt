use Rattle.std.proofs.Common.{◌≡◌, ℕ, ◌+◌, ◌-◌, ◌<◌, ◌≤◌, min, length, slice_index}
use Rattle.flow_limits.specs.Limits.{most_machines}
use Rattle.flow_shop.specs.Shop.{time, time_between}
use Rattle.flow_bound.proofs.loads.take_in.Given as goal

-- the sums and the least tails of the machines so far have the job, and the others not yet
abbrev pub invariant-loop-machine : goal.invariant-loop-machine
invariant-loop-machine l = record {
  within : l.machine ≤ l.instance.machines;
  sums_size : length l.sums ≡ most_machines;
  tails_size : length l.tails ≡ most_machines;
  behind_is : l.behind ≡ time_between l.instance l.job (l.machine + 1) l.instance.machines;
  sums_are : (k : ℕ) → l.machine < k → k ≤ l.instance.machines →
      slice_index l.sums (k - 1) ≡ slice_index l.fn.sums (k - 1) + time l.instance l.job k;
  tails_are : (k : ℕ) → l.machine < k → k ≤ l.instance.machines →
      slice_index l.tails (k - 1)
      ≡ min (slice_index l.fn.tails (k - 1)) (time_between l.instance l.job (k + 1) l.instance.machines);
  sums_stay : (k : ℕ) → 1 ≤ k → k ≤ l.machine → slice_index l.sums (k - 1) ≡ slice_index l.fn.sums (k - 1);
  tails_stay : (k : ℕ) → 1 ≤ k → k ≤ l.machine → slice_index l.tails (k - 1) ≡ slice_index l.fn.tails (k - 1);
}

abbrev pub decreases-loop-machine : goal.decreases-loop-machine
decreases-loop-machine l = l.machine
