use Rattle.std.proofs.Common.{◌≡◌, ℕ, ◌-◌, ◌/◌, ◌<◌, ◌≤◌}
use Rattle.flow_improve.specs.internal.Beams.{HasBoundsAt, job_at}
use Rattle.flow_improve.proofs.two_ended.bounds.ChildBounds.fill.Given as goal

-- the bounds of the children whose jobs stand in the groups so far
abbrev pub invariant-loop-group : goal.invariant-loop-group
invariant-loop-group g l = record {
  cap : l.self.cap ≡ l.fn.self.cap;
  done : (place : ℕ) → l.entry.first ≤ place → place < l.entry.before →
      (job_at l.entry place - 1) / 16 < l.group → HasBoundsAt l.instance l.entry l.self place;
}
