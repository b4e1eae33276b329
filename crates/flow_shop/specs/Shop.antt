-- Instances: when two are the same, their limits, and numbers of their machines.
use Rattle.std.specs.Prelude.{ℕ, ◌≡◌, ◌*◌, ◌-◌, ◌≤◌, Bool, ◌&&◌, nat_eq, List, length, map, slice_index, All}
use Rattle.std.specs.Cmp.Lexicographic.{pointwise}
use Rattle.flow_limits.specs.Limits.{most_jobs, most_machines, greatest_time}
pub use Rattle.flow_shop.specs.LeastMakespan.{Shop, numbers, time, time_between}

-- whether two instances have the same jobs, machines and times
abbrev pub is_same_shop : Shop → Shop → Bool
is_same_shop one other =
    (nat_eq one.jobs other.jobs && nat_eq one.machines other.machines) && pointwise nat_eq one.times other.times

-- the times of the jobs on a machine, that of job 1 first
abbrev pub times_on : Shop → ℕ → List ℕ
times_on shop machine = map (λ job. time shop job machine) (numbers 1 shop.jobs)

-- a list has the value of each machine of an instance, that of machine 1 first
abbrev pub AreOf : Shop → (ℕ → ℕ) → List ℕ → Type 0
AreOf shop value numbers =
    (machine : ℕ) → 1 ≤ machine → machine ≤ shop.machines → slice_index numbers (machine - 1) ≡ value machine

-- an instance is within the limits: it has a job and a machine at least, one time for each job on each machine, and
-- nothing above its limit
pub record IsWithinLimits (shop : Shop) : Type 0 where
  pub some_job : 1 ≤ shop.jobs
  pub jobs : shop.jobs ≤ most_jobs
  pub some_machine : 1 ≤ shop.machines
  pub machines : shop.machines ≤ most_machines
  pub count : length shop.times ≡ shop.jobs * shop.machines
  pub times : All (λ time. time ≤ greatest_time) shop.times
