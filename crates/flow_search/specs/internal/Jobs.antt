-- Sets of jobs of an instance.
use Rattle.std.specs.Prelude.{ℕ, ◌≡◌, ◌≤◌, Bool, true, List}
use Rattle.flow_shop.specs.Shop.{Shop}
use Rattle.flow_shop.specs.JobSet.{contains}

-- a job of the instance is in a set
pub record IsJobIn (shop : Shop) (set : List Bool) (job : ℕ) : Type 0 where
  pub from : 1 ≤ job
  pub to : job ≤ shop.jobs
  pub left : contains set job ≡ true
