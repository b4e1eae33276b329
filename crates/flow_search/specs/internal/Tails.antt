-- The tails of some jobs after each machine, and the second least of them.
use Rattle.std.specs.Prelude.{ℕ, ◌+◌, List}
use Rattle.flow_shop.specs.Shop.{Shop, time_between, AreOf}
use Rattle.flow_shop.specs.TwoLeast.{tails, second_below, least_of_none}

-- the tail of a job after the machine at a place
abbrev pub tail_at : Shop → ℕ → ℕ → ℕ
tail_at shop place job = time_between shop job (place + 1 + 1) shop.machines

-- the second least tail of some jobs after a machine
abbrev pub second_tail : Shop → List ℕ → ℕ → ℕ
second_tail shop jobs machine = second_below least_of_none least_of_none (tails shop machine jobs)

-- for each machine the second least tail of some jobs after it
abbrev pub AreSecondTails : Shop → List ℕ → List ℕ → Type 0
AreSecondTails shop jobs seconds = AreOf shop (second_tail shop jobs) seconds
