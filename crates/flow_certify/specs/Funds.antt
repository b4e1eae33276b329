-- How many directions the searches of `certify` may write. Names in capitals are constants of the code.
use Rattle.std.specs.Prelude.{ℕ, ◌+◌, ◌-◌, ◌*◌, ◌/◌, ◌^◌, min, nat_le, ◌==◌, if◌then◌else◌}
use Rattle.flow_shop.specs.Shop.{Shop}
use Rattle.flow_certify.specs.Signs.{most_searched}
use Rattle.flow_certify.specs.declared.budgets.Budget.{Budget}
use Rattle.flow_certify.specs.declared.budgets.Budget.TheVariants.{Of, Most, Tenth, Thirtieth, First}
use Rattle.flow_certify.specs.declared.budgets.Fund.{Fund}
use Rattle.flow_certify.specs.declared.budgets.TheConstants.{FIXED, SHARE}

-- a number as so many bits hold it: where it is too great, the greatest that they hold
abbrev pub held : ℕ → ℕ → ℕ
held bits number = min number (2 ^ bits - 1)

-- what a direction costs: 1 for each job on each machine, and what does not depend on the shop; twice as much where 16
-- bits are too few for the makespan of the start
abbrev pub cost : Shop → ℕ → ℕ
cost shop makespan = (shop.jobs * shop.machines + FIXED) * (if nat_le makespan 65535 then 1 else 2)

-- how many directions all searches may write, at a caller's limit
abbrev pub all_directions : Shop → ℕ → ℕ → ℕ
all_directions shop makespan limit = limit * SHARE / cost shop makespan

-- the fund of a run at its beginning: one search may write no more than the limit lets it, and no more than four fifths
-- of what all may write; half of what all may write is kept; and a search costs a third of the square of the jobs beside
-- its directions
abbrev pub first_fund : Shop → ℕ → ℕ → Fund
first_fund shop makespan limit = record {
  most = min (most_searched limit) (all_directions shop makespan limit - all_directions shop makespan limit / 5);
  left = all_directions shop makespan limit - all_directions shop makespan limit / 2;
  kept = all_directions shop makespan limit / 2;
  entry = shop.jobs * shop.jobs / 3;
}

-- how many directions a budget is
abbrev pub budgeted : Fund → Budget → ℕ
budgeted fund (Of directions) = directions
budgeted fund Most = fund.most
budgeted fund Tenth = fund.most / 10
budgeted fund Thirtieth = fund.most / 30
budgeted fund First = min (fund.most / 10) 10000

-- how many directions a search with a budget may write: no more than the greatest budget, and than are left
abbrev pub granted : Fund → Budget → ℕ
granted fund budget = min (min (budgeted fund budget) fund.most) fund.left

-- after a search that wrote so many directions: they are taken off, and what a search costs beside them; nothing, where
-- it wrote none
abbrev pub charged : ℕ → Fund → Fund
charged directions fund =
    if directions == 0 then fund else record fund { left = fund.left - (directions + fund.entry) }

-- what was kept is given to the next searches
abbrev pub released : Fund → Fund
released fund = record fund { left = held 64 (fund.left + fund.kept); kept = 0 }
