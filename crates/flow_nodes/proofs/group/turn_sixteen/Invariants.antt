use Rattle.std.proofs.Common.{◌≡◌, ℕ, ◌+◌, ◌*◌, ◌<◌, length, slice_index}
use Rattle.flow_shop.specs.Shop.{time}
use Rattle.flow_nodes.proofs.group.turn_sixteen.Given as goal

-- the lanes so far
abbrev pub invariant-loop-part : goal.invariant-loop-part
invariant-loop-part l = record {
  size : length l.block ≡ 64;
  done : (place lane : ℕ) → place < 4 → lane < l.part * 4 → l.at + place < l.instance.machines →
      slice_index l.block (place * 16 + lane) ≡ time l.instance (slice_index l.jobs lane) (l.at + place + 1);
}
