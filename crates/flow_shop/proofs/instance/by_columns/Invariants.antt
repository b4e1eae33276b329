use Rattle.std.proofs.Common.{◌≡◌, vec_capacity, vec_len, map, slice_index}
use Rattle.std.specs.List.{range_with_len}
use Rattle.flow_shop.proofs.Transposes.{taken_from}
use Rattle.flow_shop.proofs.instance.by_columns.Given as goal

-- so many places are taken
abbrev pub invariant-loop-place : goal.invariant-loop-place
invariant-loop-place l = record {
  capacity : vec_capacity l.taken ≡ l.count;
  count : vec_len l.taken ≡ l.place;
  taken : l.taken.items
      ≡ map (λ place. slice_index l.numbers (taken_from l.lists l.each place)) (range_with_len 0 l.place);
}
