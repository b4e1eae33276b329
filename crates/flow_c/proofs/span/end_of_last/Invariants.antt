use Rattle.std.proofs.Common.{◌≡◌, ◌+◌, ◌-◌, length, take}
use Rattle.flow_shop.specs.Paths.{completion}
use Rattle.flow_c.proofs.span.end_of_last.Given as goal

abbrev pub invariant-loop-machine : goal.invariant-loop-machine
invariant-loop-machine l = record {
  end : l.end ≡ l.instance.machines + 1;
  free : l.free ≡ completion l.instance (take (length l.sequence - 1 + 1) l.sequence) (l.machine - 1);
}
