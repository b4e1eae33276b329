-- Sets of jobs.
use Rattle.std.specs.Prelude.{ℕ, ◌≡◌, ◌-◌, ◌<◌, ◌≤◌, Bool, false, List, slice_index_or, length, filter}
use Rattle.flow_limits.specs.Limits.{most_jobs}
use Rattle.flow_shop.specs.Shop.{Shop, numbers}
use Rattle.flow_shop.specs.Sequences.{has, AreJobs}

-- A set of jobs is seen as a list of truth values: the first says whether job 1 is in it, and so on.

-- whether the set has a job
abbrev pub contains : List Bool → ℕ → Bool
contains set job = slice_index_or set (job - 1) false

-- the jobs of the set in increasing order
abbrev pub members : List Bool → List ℕ
members set = filter (contains set) (numbers 1 (length set))

-- the set has jobs of the instance alone
abbrev pub IsSetOf : Shop → List Bool → Type 0
IsSetOf shop set = (job : ℕ) → shop.jobs < job → contains set job ≡ false

-- of the jobs of the instance a set has those of a list and no others; it has a place for each of the most jobs
pub record Holds (shop : Shop) (list : List ℕ) (set : List Bool) : Type 0 where
  pub size : length set ≡ most_jobs
  pub each : (job : ℕ) → 1 ≤ job → job ≤ shop.jobs → contains set job ≡ has list job

-- distinct jobs of the instance, how many they are, and a set that holds them
pub record AreTaken (shop : Shop) (list : List ℕ) (count : ℕ) (set : List Bool) : Type 0 where
  pub are_jobs : AreJobs shop.jobs list
  pub size : length list ≡ count
  pub holds : Holds shop list set
