use Rattle.std.proofs.Common.{◌≡◌, ℕ, ◌+◌, ◌-◌, ◌*◌, ◌<◌, ◌≤◌, length, map, slice_index}
use Rattle.std.specs.List.{sum_by}
use Rattle.flow_limits.specs.Limits.{most_jobs, greatest_time}
use Rattle.flow_shop.specs.Shop.{numbers, time, time_between}
use Rattle.flow_shop.specs.TwoLeast.{least_below}
use Rattle.flow_bound.proofs.taillard.load_of.Given as goal

-- the heads so far are those of the next machine; the least head, the sum and the least tail are those of the jobs so
-- far
abbrev pub invariant-loop-job : goal.invariant-loop-job
invariant-loop-job l = record {
  length : length l.heads ≡ most_jobs;
  done : (job : ℕ) → 1 ≤ job → job < l.job → slice_index l.heads (job - 1) ≡ time_between l.instance job 1 l.machine;
  others : (job : ℕ) → l.job ≤ job → job ≤ l.instance.jobs →
      slice_index l.heads (job - 1) ≡ time_between l.instance job 1 (l.machine - 1);
  head : l.least_head ≡ least_below 4294967295 (map (λ job. time_between l.instance job 1 (l.machine - 1)) (numbers 1
      (l.job - 1)));
  head_fits : l.least_head ≤ 4294967295;
  work : l.work ≡ sum_by (λ job. time l.instance job l.machine) (numbers 1 (l.job - 1));
  small : l.work ≤ (l.job - 1) * greatest_time;
  tail : l.least_tail ≡ least_below 4294967295 (map (λ job. time_between l.instance job (l.machine
      + 1) l.instance.machines) (numbers 1 (l.job - 1)));
  tail_fits : l.least_tail ≤ 4294967295;
}
