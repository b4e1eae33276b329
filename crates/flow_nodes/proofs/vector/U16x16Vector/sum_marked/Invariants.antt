use Rattle.std.proofs.Common.{◌≡◌, ◌*◌, ◌≤◌, take}
use Rattle.std.specs.Prelude.{sum}
use Rattle.flow_nodes.proofs.vector.U16x16Vector.sum_marked.Given as goal

-- the lanes so far are added
abbrev pub invariant-loop-lane : goal.invariant-loop-lane
invariant-loop-lane l = record {
  small : l.sum ≤ l.lane * 65535;
  same : l.sum ≡ sum (take l.lane l.lanes);
}
