use Rattle.std.proofs.Common.{◌≡◌, ℕ, ◌<◌, ◌≤◌, [], drop, length, take, slice_index, slice_index_or}
use Rattle.std.specs.List.{insert}
use Rattle.flow_shop.specs.Front.{IsFrontOf}
use Rattle.flow_shop.specs.Paths.{span}
use Rattle.flow_bound.specs.internal.Tails.{AreTails}
use Rattle.flow_bound.proofs.start.insertion_room.InsertionRoom.fill_spans.Given as goal

-- each place has the tails of the jobs behind it, and the places so far have their makespans
abbrev pub invariant-loop-index : goal.invariant-loop-index
invariant-loop-index l = record {
  tails : (place : ℕ) → place ≤ length l.partial →
      AreTails l.instance (drop place l.partial) (slice_index_or l.tails place []);
  front : IsFrontOf l.instance (take l.index l.partial) l.front;
  done : (place : ℕ) → place < l.index → slice_index l.spans place ≡ span l.instance (insert l.partial place l.job);
}
