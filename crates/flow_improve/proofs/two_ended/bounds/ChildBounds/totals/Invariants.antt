use Rattle.std.proofs.Common.{◌≡◌, ◌+◌, ◌*◌, ◌-◌, ◌≤◌, nat_lt, take, sum_by}
use Rattle.std.specs.List.{count_by}
use Rattle.flow_improve.specs.internal.Opens.{bound_at_end, left_of}
use Rattle.flow_improve.proofs.two_ended.bounds.ChildBounds.totals.Given as goal

-- the children so far are counted, and their bounds summed
abbrev pub invariant-loop-place : goal.invariant-loop-place
invariant-loop-place l = record {
  few : l.below + l.entry.first ≤ l.place;
  counted : l.below
      ≡ count_by (λ job. nat_lt (bound_at_end l.instance l.entry l.end job) l.threshold)
      (take (l.place - l.entry.first) (left_of l.entry));
  small : l.sum + l.entry.first * 4294967295 ≤ l.place * 4294967295;
  summed : l.sum
      ≡ sum_by (bound_at_end l.instance l.entry l.end) (take (l.place - l.entry.first) (left_of l.entry));
}
