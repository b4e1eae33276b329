-- What a plan keeps beside its parts: its prefixes, and the times of the jobs.
use Rattle.std.specs.Prelude.{ℕ, ◌≡◌, List, length}
use Rattle.std.specs.List.{concat}
use Rattle.flow_shop.specs.Rows.{AreRows}
use Rattle.flow_shop.specs.declared.row.Row.{Row}
use Rattle.flow_search.specs.Plans.{Planned, prefixes_of, IsPlan}

-- what is stored of a plan: how many prefixes there are, and their jobs, one prefix after another; and a row of times
-- and tails for each job
pub record IsStored (plan : Planned) (count : ℕ) (lists : List ℕ) (rows : List Row) : Type 0 where
  pub is_plan : IsPlan plan
  pub count_is : count ≡ length (prefixes_of plan)
  pub lists_are : lists ≡ concat (prefixes_of plan)
  pub rows_are : AreRows plan.shop rows
