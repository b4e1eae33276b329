use Rattle.std.proofs.Common.{◌≡◌, ◌<◌, ◌≤◌, slice_index_or, take}
use Rattle.std.specs.Prelude.{All}
use Rattle.flow_improve.specs.internal.Beams.{bound_of}
use Rattle.flow_improve.specs.declared.two_ended.entry.Entry.{Entry}
use Rattle.flow_improve.proofs.two_ended.pass.Passes.least.Given as goal

-- a node of the list, and its bound, which is the least so far
abbrev pub invariant-loop-place : goal.invariant-loop-place
invariant-loop-place g l = record {
  some : l.least < l.self.count;
  bound : (d : Entry) → l.bound ≡ bound_of l.instance (slice_index_or l.self.list.items l.least d);
  others : All (λ other. l.bound ≤ bound_of l.instance other) (take l.place l.self.list.items);
}
