use Rattle.std.proofs.Common.{◌≡◌, ℕ, ◌+◌, ◌<◌, ◌≤◌, length, slice_index}
use Rattle.flow_limits.specs.Limits.{most_machines}
use Rattle.flow_shop.specs.Shop.{Shop}
use Rattle.flow_shop.specs.Rows.{IsRow}
use Rattle.flow_shop.specs.TwoLeast.{time_to}
use Rattle.flow_shop.proofs.row.Row.lags_to.Given as goal

-- the lags from the machines so far
abbrev pub invariant-loop-from : goal.invariant-loop-from
invariant-loop-from l = record {
  size : length l.lags ≡ most_machines;
  done : (shop : Shop) (job : ℕ) → IsRow shop job l.self → l.machine ≤ shop.machines → (place : ℕ) →
      place + 1 < l.from → slice_index l.lags place ≡ time_to shop l.machine place job;
}
