use Rattle.std.proofs.Common.{◌≡◌, ◌-◌, ◌*◌, ◌≤◌, length}
use Rattle.flow_limits.specs.Limits.{most_prefixes}
use Rattle.flow_shop.specs.Sequences.{cut}
use Rattle.flow_search.proofs.CutLemmas.{falling}
use Rattle.flow_search.proofs.cut_lists.prefix_count.Given as goal

abbrev pub invariant-loop-used : goal.invariant-loop-used
invariant-loop-used l = record {
  product : l.count * falling (l.jobs - l.used) (l.depth - l.used) ≡ length (cut l.jobs l.depth);
  few : l.count ≤ most_prefixes;
}
