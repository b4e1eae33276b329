use Rattle.std.proofs.Common.{◌≡◌, ℕ, ◌+◌, ◌-◌, ◌^◌, ◌≤◌, max, List, map, slice_index}
use Rattle.flow_limits.specs.Limits.{greatest_completion}
use Rattle.flow_shop.specs.Shop.{Shop, numbers}
use Rattle.flow_shop.specs.Least.{greatest}
use Rattle.flow_bound.specs.Rest.{AreLags}
use Rattle.flow_bound.proofs.Releases.{start_from}
use Rattle.flow_bound.proofs.rest.release_from_lags.Given as goal

-- the front, and the greatest over the machines so far
abbrev pub invariant-loop-from : goal.invariant-loop-from
invariant-loop-from l = record {
  is : (shop : Shop) (jobs : List ℕ) → AreLags shop jobs l.machine l.lags →
      l.release ≡ max (slice_index l.front (l.machine - 1))
      (greatest (map (start_from shop l.front jobs l.machine) (numbers 1 (l.from - 1))));
  limit : l.release ≤ greatest_completion + 2 ^ 32;
}
