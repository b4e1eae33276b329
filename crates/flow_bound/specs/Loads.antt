-- The remaining work of each machine, where some jobs are left.
use Rattle.std.specs.Prelude.{ℕ, ◌≡◌, ◌+◌, List, sum_by}
use Rattle.flow_shop.specs.Shop.{Shop, time, AreOf}
pub use Rattle.flow_shop.specs.Least.{least_between}

-- the remaining work: how many machines there are, and for each the time of the jobs left and their least tail
pub record Remaining : Type 0 where
  pub machines : ℕ
  pub sums : List ℕ
  pub tails : List ℕ

-- the least time that one of some jobs needs behind a machine
abbrev pub least_tail : Shop → List ℕ → ℕ → ℕ
least_tail shop jobs machine = least_between shop jobs (machine + 1) shop.machines

-- the loads of some jobs have, for each machine, the time of the jobs on it, and their least tail
pub record AreLoadsOf (shop : Shop) (jobs : List ℕ) (loads : Remaining) : Type 0 where
  pub machines_are : loads.machines ≡ shop.machines
  pub sums_are : AreOf shop (λ machine. sum_by (λ job. time shop job machine) jobs) loads.sums
  pub tails_are : AreOf shop (least_tail shop jobs) loads.tails
