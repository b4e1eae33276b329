-- The lists of a node in an array.
use Rattle.std.specs.Prelude.{ℕ, ◌≡◌, ◌+◌, ◌-◌, ◌≤◌, List, length, take, drop}
use Rattle.flow_directions.specs.declared.lists.Lists.{Lists}

-- an array with a place for each of so many jobs begins with the first list, and ends with the last one
pub record HasLists (jobs : ℕ) (first last : List ℕ) (lists : Lists) : Type 0 where
  pub size : length lists.jobs.items ≡ jobs
  pub first_count : lists.first ≡ length first
  pub last_count : lists.last ≡ length last
  pub room : length first + length last ≤ jobs
  pub begins : take (length first) lists.jobs.items ≡ first
  pub ends : drop (jobs - length last) lists.jobs.items ≡ last
