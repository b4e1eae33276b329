-- Each job's time on several machines, as the code keeps it.
use Rattle.std.specs.Prelude.{ℕ, ◌≡◌, ◌-◌, ◌≤◌, List, slice_index}
use Rattle.flow_shop.specs.Shop.{Shop, time_between}

-- each job's time on the machines from one to another, that of job 1 first
abbrev pub AreTimes : Shop → List ℕ → ℕ → ℕ → Type 0
AreTimes shop times first last =
    (job : ℕ) → 1 ≤ job → job ≤ shop.jobs → slice_index times (job - 1) ≡ time_between shop job first last
