use Rattle.std.proofs.Common.{◌≡◌, ℕ, ◌+◌, ◌-◌, ◌*◌, ◌<◌, ◌≤◌, max, List, [], ◌∷◌, ◌++◌, map, slice_index}
use Rattle.flow_limits.specs.Limits.{most_machines, greatest_time, greatest_completion}
use Rattle.flow_shop.specs.Shop.{Shop, numbers}
use Rattle.flow_shop.specs.Least.{greatest}
use Rattle.flow_shop.specs.Sequences.{jobs_left}
use Rattle.flow_search.specs.internal.Lags.{IsLagged}
use Rattle.flow_bound.proofs.Releases.{start_from}
use Rattle.flow_search.proofs.release.release_at_child.Given as goal

-- the greatest start from the machines so far
abbrev pub invariant-loop-earlier : goal.invariant-loop-earlier
invariant-loop-earlier l = record {
  least : slice_index l.free (l.machine - 1) ≤ l.made;
  limit : l.made ≤ greatest_completion + 2 * most_machines * greatest_time;
  value : (shop : Shop) (node front : List ℕ) (left job : ℕ) →
      IsLagged shop node left job l.machine l.row l.lags →
      ((place : ℕ) → place < l.machine → slice_index l.free place ≡ slice_index front place) →
      l.made ≡ max (slice_index front (l.machine - 1))
      (greatest (map (start_from shop front (jobs_left shop.jobs (node ++ job ∷ [])) l.machine) (numbers 1 (l.earlier
      - 1))));
}
