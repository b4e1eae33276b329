use Rattle.std.proofs.Common.{◌≡◌, ℕ, ◌-◌, ◌≤◌, ◌<◌, [], sum_by, length, slice_index}
use Rattle.flow_shop.specs.Limits.{most_machines}
use Rattle.flow_shop.specs.Shop.{time}
use Rattle.flow_shop.specs.Sequences.{jobs_left}
use Rattle.flow_check.proofs.node.ListNode.root.Given as goal

abbrev pub invariant-loop-machine : goal.invariant-loop-machine
invariant-loop-machine l = record {
  size : length l.work ≡ most_machines;
  done : (machine : ℕ) → 1 ≤ machine → machine < l.machine →
      slice_index l.work (machine - 1) ≡ sum_by (λ job. time l.instance job machine) (jobs_left l.instance.jobs []);
}
