use Rattle.std.proofs.Common.{◌≡◌, ℕ, suc, ◌+◌, ◌-◌, ◌*◌, ◌≤◌, nat_le, List, [], ◌∷◌, ◌++◌}
use Rattle.std.specs.List.{find}
use Rattle.flow_limits.specs.Limits.{greatest_time, greatest_completion}
use Rattle.flow_shop.specs.Shop.{numbers}
use Rattle.flow_shop.specs.Bound.{bound_at}
use Rattle.flow_shop.proofs.Recurrence.{after}
use Rattle.flow_shop.proofs.Fronts.{free_at}
use Rattle.flow_search.specs.internal.Frames.{IsFrame, IsChild}
use Rattle.flow_search.proofs.bounds.pruning_of_child_plain.Given as goal

-- when the child's job leaves the machines so far, none of whose bounds reaches the value
abbrev pub invariant-loop-machine : goal.invariant-loop-machine
invariant-loop-machine l = record {
  is : l.free ≡ after l.setting.instance.now (free_at l.here.front) l.job (l.machine - 1);
  small : l.free ≤ greatest_completion + (l.machine - 1) * greatest_time;
  none : (node : List ℕ) (left : ℕ) → IsFrame l.setting.instance.now node (suc (suc left)) l.here →
      IsChild l.setting.instance.now.jobs node l.job →
      find (λ machine. nat_le l.value (bound_at l.setting.instance.now (node ++ l.job
      ∷ []) machine)) (numbers l.machine l.setting.instance.now.machines)
      ≡ find (λ machine. nat_le l.value (bound_at l.setting.instance.now (node ++ l.job
      ∷ []) machine)) (numbers 1 l.setting.instance.now.machines);
}
