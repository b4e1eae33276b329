use Rattle.std.proofs.Common.{◌≡◌, ℕ, ◌-◌, ◌≤◌, ◌+◌, ◌*◌, ◌<◌, List, ◌∷◌, slice_index, length}
use Rattle.flow_shop.specs.Shop.{AreOf}
use Rattle.flow_limits.specs.Limits.{most_machines, greatest_time, greatest_completion}
use Rattle.flow_shop.specs.Ends.{back}
use Rattle.flow_nodes.proofs.node.put_before.Given as goal

-- the machines so far are those of the longer list, and the others as they were
abbrev pub invariant-loop-machine : goal.invariant-loop-machine
invariant-loop-machine l = record {
  within : l.machine ≤ l.instance.machines;
  length : length l.backs ≡ most_machines;
  small : l.behind ≤ greatest_completion + (l.instance.machines - l.machine) * greatest_time;
  behind : (last : List ℕ) → AreOf l.instance (back l.instance last) l.initial.backs →
      l.behind ≡ back l.instance (l.job ∷ last) (l.machine + 1);
  done : (last : List ℕ) → AreOf l.instance (back l.instance last) l.initial.backs → (machine : ℕ) →
      l.machine < machine → machine ≤ l.instance.machines →
      slice_index l.backs (machine - 1) ≡ back l.instance (l.job ∷ last) machine;
  others : (place : ℕ) → place < l.machine → slice_index l.backs place ≡ slice_index l.initial.backs place;
}

abbrev pub decreases-loop-machine : goal.decreases-loop-machine
decreases-loop-machine l = l.machine
