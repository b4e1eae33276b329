use Rattle.std.proofs.Common.{◌≡◌, ℕ, ◌-◌, ◌≤◌, ◌+◌, ◌<◌, slice_index, length}
use Rattle.flow_limits.specs.Limits.{most_machines}
use Rattle.flow_shop.specs.Shop.{time}
use Rattle.flow_nodes.proofs.node.take_work.Given as goal

abbrev pub invariant-loop-machine : goal.invariant-loop-machine
invariant-loop-machine l = record {
  end : l.end ≡ l.instance.machines + 1;
  length : length l.works ≡ most_machines;
  done : (machine : ℕ) → 1 ≤ machine → machine < l.machine →
      slice_index l.works (machine - 1) + time l.instance l.job machine ≡ slice_index l.initial.works (machine - 1);
  others : (place : ℕ) → l.machine ≤ place + 1 → slice_index l.works place ≡ slice_index l.initial.works place;
}
