use Rattle.std.proofs.Common.{◌≡◌}
use Rattle.std.specs.List.{find}
use Rattle.flow_shop.specs.Shop.{numbers}
use Rattle.flow_shop.specs.JobSet.{contains}
use Rattle.flow_search.proofs.subtree.first_of.Given as goal

-- no job so far is in the set
abbrev pub invariant-loop-job : goal.invariant-loop-job
invariant-loop-job l = find (contains l.set) (numbers l.job l.last) ≡ find (contains l.set) (numbers l.from l.last)
