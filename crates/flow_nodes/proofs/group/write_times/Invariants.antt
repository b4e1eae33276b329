use Rattle.std.proofs.Common.{◌≡◌, ℕ, ◌<◌, length, slice_index}
use Rattle.flow_shop.specs.Shop.{time}
use Rattle.flow_nodes.proofs.group.write_times.Given as goal

abbrev pub invariant-loop-lane : goal.invariant-loop-lane
invariant-loop-lane l = record {
  length : length l.times ≡ 64;
  done : (lane : ℕ) → lane < l.lane → slice_index l.times lane ≡ time l.instance (slice_index l.jobs lane) l.machine;
}
