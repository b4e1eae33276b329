use Rattle.std.proofs.Common.{◌≡◌, ℕ, suc, ◌+◌, ◌-◌, ◌*◌, ◌≤◌, List, [], ◌∷◌, ◌++◌, map, Some}
use Rattle.flow_shop.specs.Limits.{greatest_time, greatest_completion}
use Rattle.flow_shop.specs.Shop.{numbers}
use Rattle.flow_shop.specs.Least.{greatest, least}
use Rattle.flow_shop.specs.Sequences.{jobs_left}
use Rattle.flow_shop.proofs.Recurrence.{after}
use Rattle.flow_shop.proofs.Fronts.{free_at}
use Rattle.flow_check.specs.internal.Lags.{AreTwoLeastLagsTo}
use Rattle.flow_check.proofs.Releases.{lags}
use Rattle.flow_check.specs.internal.Nodes.{IsListNode, IsChild}
use Rattle.flow_check.proofs.release.child_gain.Given as goal

abbrev pub invariant-loop-from : goal.invariant-loop-from
invariant-loop-from l = record {
  free : l.free ≡ after l.text.shop.now (free_at l.node.front) l.job (l.from - 1);
  small : l.free ≤ greatest_completion + (l.from - 1) * greatest_time;
  late : l.free ≤ l.release;
  release : (list : List ℕ) (left : ℕ) → IsListNode l.text.shop.now list l.node (suc (suc left)) →
      AreTwoLeastLagsTo l.text.shop.now list l.machine l.lags →
      IsChild l.text.shop.now.jobs list (Some l.job) →
      l.release ≡ greatest (map (λ from. after l.text.shop.now (free_at l.node.front) l.job from
      + least (lags l.text.shop.now from l.machine (jobs_left l.text.shop.now.jobs (list ++ l.job ∷ []))))
      (numbers 1 (l.from - 1)));
}
