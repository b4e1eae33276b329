use Rattle.std.proofs.Common.{◌-◌, ◌≤◌, length}
use Rattle.flow_improve.specs.internal.Beams.{AreEntries}
use Rattle.flow_improve.proofs.two_ended.entry.copies.Given as goal

-- the entries so far
abbrev pub invariant-entries : goal.invariant-entries
invariant-entries l = record {
  entries : AreEntries l.instance l.entries.items;
  few : length l.entries.items ≤ l.count;
}

abbrev pub decreases-entries : goal.decreases-entries
decreases-entries l = l.count - length l.entries.items
