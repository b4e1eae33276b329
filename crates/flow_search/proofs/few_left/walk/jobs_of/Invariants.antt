use Rattle.std.proofs.Common.{◌≡◌, ◌≤◌, ◌++◌, length, take}
use Rattle.std.specs.List.{filter}
use Rattle.flow_shop.specs.Shop.{numbers}
use Rattle.flow_shop.specs.JobSet.{contains}
use Rattle.flow_search.proofs.few_left.walk.jobs_of.Given as goal

-- the jobs so far, and then those of the numbers that are left
abbrev pub invariant-loop-job : goal.invariant-loop-job
invariant-loop-job l = record {
  size : length l.made ≡ 8;
  few : l.count ≤ 8;
  jobs : take l.count l.made ++ filter (contains l.set) (numbers l.job l.instance.jobs)
      ≡ filter (contains l.set) (numbers 1 l.instance.jobs);
}
