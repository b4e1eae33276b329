use Rattle.std.proofs.Common.{◌≡◌, map, take}
use Rattle.test_libraries.proofs.outcomes.is_verdict.Given as goal

abbrev pub invariant-loop-index : goal.invariant-loop-index
invariant-loop-index l = record {
  same : map (λ tree. tree.items) (take l.index l.verdict.trees.items) ≡ map (λ tree. tree.now) (take l.index l.trees);
}
