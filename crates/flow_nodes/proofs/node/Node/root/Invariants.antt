use Rattle.std.proofs.Common.{◌≡◌, ℕ, ◌-◌, ◌≤◌, ◌<◌, [], slice_index, length}
use Rattle.flow_limits.specs.Limits.{most_machines}
use Rattle.flow_shop.specs.Ends.{head, tail}
use Rattle.flow_nodes.specs.Nodes.{work}
use Rattle.flow_nodes.proofs.node.Node.root.Given as goal

abbrev pub invariant-loop-machine : goal.invariant-loop-machine
invariant-loop-machine l = record {
  front_size : length l.front ≡ most_machines;
  back_size : length l.back ≡ most_machines;
  work_size : length l.work ≡ most_machines;
  fronts : (machine : ℕ) → 1 ≤ machine → machine < l.machine →
      slice_index l.front (machine - 1) ≡ head l.instance machine;
  backs : (machine : ℕ) → 1 ≤ machine → machine < l.machine →
      slice_index l.back (machine - 1) ≡ tail l.instance machine;
  works : (machine : ℕ) → 1 ≤ machine → machine < l.machine →
      slice_index l.work (machine - 1) ≡ work l.instance [] machine;
}
