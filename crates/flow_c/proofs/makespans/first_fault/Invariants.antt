use Rattle.std.proofs.Common.{◌≡◌}
use Rattle.flow_c.specs.Makespans.{lists_fault, AreLists}
use Rattle.flow_c.proofs.FirstFault.{later_fault}
use Rattle.flow_c.proofs.makespans.first_fault.Given as goal

-- the lists so far have no fault
abbrev pub invariant-loop-index : goal.invariant-loop-index
invariant-loop-index l = record {
  later : later_fault l.instance.jobs l.lists l.index l.count ≡ lists_fault l.instance.jobs l.lists l.count;
  none : AreLists l.instance.jobs l.lists l.index;
}
