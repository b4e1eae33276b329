use Rattle.std.proofs.Common.{◌≡◌, ℕ, ◌+◌, ◌-◌, ◌<◌, ◌≤◌, length, take, slice_index}
use Rattle.flow_limits.specs.Limits.{most_machines}
use Rattle.flow_shop.specs.Paths.{completion}
use Rattle.flow_c.proofs.span.push_two.Given as goal

-- when both jobs have left the machine before, and which machines have the times of both
abbrev pub invariant-loop-machine : goal.invariant-loop-machine
invariant-loop-machine l = record {
  end : l.end ≡ l.instance.machines + 1;
  length : length l.front ≡ most_machines;
  first : l.first ≡ completion l.instance (take (l.count + 1) l.sequence) (l.machine - 1);
  second : l.second ≡ completion l.instance (take (l.count + 1 + 1) l.sequence) (l.machine - 1);
  done : (machine : ℕ) → 1 ≤ machine → machine < l.machine →
      slice_index l.front (machine - 1) ≡ completion l.instance (take (l.count + 1 + 1) l.sequence) machine;
  others : (machine : ℕ) → l.machine ≤ machine → machine ≤ l.instance.machines →
      slice_index l.front (machine - 1) ≡ completion l.instance (take l.count l.sequence) machine;
}
