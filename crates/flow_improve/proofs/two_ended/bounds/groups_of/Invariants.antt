use Rattle.std.proofs.Common.{◌≡◌, ℕ, ◌/◌, ◌-◌, ◌<◌, true, false, length, slice_index, slice_index_or}
use Rattle.flow_improve.proofs.two_ended.bounds.groups_of.Given as goal

-- the groups of the jobs so far
abbrev pub invariant-loop-place : goal.invariant-loop-place
invariant-loop-place l = record {
  count : length l.groups ≡ 50;
  done : (place : ℕ) → place < l.place →
      slice_index_or l.groups ((slice_index l.jobs place - 1) / 16) false ≡ true;
}
