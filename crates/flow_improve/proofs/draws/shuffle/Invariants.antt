use Rattle.std.specs.List.Sorted.{IsPermutation}
use Rattle.flow_improve.proofs.draws.shuffle.Given as goal

-- the list has the same entries
abbrev pub invariant-loop-index : goal.invariant-loop-index
invariant-loop-index l = IsPermutation l.fn.list l.list
