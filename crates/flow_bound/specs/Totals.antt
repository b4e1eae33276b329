-- A job's total: its time on all machines.
use Rattle.std.specs.Prelude.{ℕ}
use Rattle.flow_shop.specs.Shop.{Shop, time_between}

-- a job's time on all machines
abbrev pub total : Shop → ℕ → ℕ
total shop job = time_between shop job 1 shop.machines
