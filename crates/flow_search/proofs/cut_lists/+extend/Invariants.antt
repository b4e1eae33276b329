use Rattle.std.proofs.Common.{◌≡◌, ◌++◌}
use Rattle.std.specs.List.{concat}
use Rattle.flow_shop.specs.Sequences.{extensions}
use Rattle.flow_search.proofs.CutLemmas.{added}
use Rattle.flow_search.proofs.cut_lists.+extend.Given as goal

abbrev pub decreases-extend : goal.decreases-extend
decreases-extend l = l.more

abbrev pub invariant-loop-job : goal.invariant-loop-job
invariant-loop-job l = record {
  lists : l.lists.items ++ concat (added l.jobs l.below l.fn.list.items l.job) ≡ l.fn.lists.items
      ++ concat (extensions l.jobs l.more l.fn.list.items);
  list : l.list.items ≡ l.fn.list.items;
}
