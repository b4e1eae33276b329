use Rattle.std.proofs.Common.{◌≡◌, ℕ, suc, ◌+◌, ◌-◌, ◌*◌, ◌<◌, ◌≤◌, nat_le, List, [], ◌∷◌, ◌++◌, length, slice_index}
use Rattle.std.specs.List.{find}
use Rattle.flow_limits.specs.Limits.{most_machines, greatest_time, greatest_completion}
use Rattle.flow_shop.specs.Shop.{numbers}
use Rattle.flow_shop.specs.Paths.{completion}
use Rattle.flow_shop.specs.Sequences.{jobs_left}
use Rattle.flow_shop.specs.Bound.{released_bound_at}
use Rattle.flow_shop.proofs.Recurrence.{after}
use Rattle.flow_shop.proofs.Fronts.{free_at}
use Rattle.flow_search.specs.internal.Frames.{IsFrame, IsChild}
use Rattle.flow_search.specs.internal.Lags.{AreLeastLags}
use Rattle.flow_search.proofs.bounds.pruning_of_child_released.Given as goal

-- when the child's job leaves the machines so far, none of whose released bounds reaches the value
abbrev pub invariant-loop-machine : goal.invariant-loop-machine
invariant-loop-machine l = record {
  is : l.leaves ≡ after l.setting.instance.now (free_at l.here.front) l.job (l.machine - 1);
  small : l.leaves ≤ greatest_completion + (l.machine - 1) * greatest_time;
  size : length l.free ≡ most_machines;
  done_small : (place : ℕ) → place < l.machine - 1 →
      slice_index l.free place ≤ greatest_completion + most_machines * greatest_time;
  done : (node : List ℕ) (left : ℕ) → IsFrame l.setting.instance.now node (suc (suc left)) l.here → (place : ℕ) →
      place < l.machine - 1 →
      slice_index l.free place ≡ completion l.setting.instance.now (node ++ l.job ∷ []) (place + 1);
  none : (node : List ℕ) (left : ℕ) → IsFrame l.setting.instance.now node (suc (suc left)) l.here →
      IsChild l.setting.instance.now.jobs node l.job →
      AreLeastLags l.setting.instance.now (jobs_left l.setting.instance.now.jobs node) l.lags →
      find (λ machine. nat_le l.value (released_bound_at l.setting.instance.now (node ++ l.job ∷ []) machine))
      (numbers l.machine l.setting.instance.now.machines)
      ≡ find (λ machine. nat_le l.value (released_bound_at l.setting.instance.now (node ++ l.job ∷ []) machine))
      (numbers 1 l.setting.instance.now.machines);
}
