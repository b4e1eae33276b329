use Rattle.std.proofs.Common.{◌≡◌, ◌++◌, length}
use Rattle.std.specs.Vec.Iter.{into_iter_items, into_iter_len}
use Rattle.flow_search.specs.internal.Tally.{IsTally}
use Rattle.flow_search.proofs.verdict.conclude.Given as goal

abbrev pub invariant-loop-outcome : goal.invariant-loop-outcome
invariant-loop-outcome l = record {
  taken : l.yielded ++ into_iter_items l.outcome-iterator ≡ l.fn.outcomes.items;
  rest : into_iter_len l.outcome-iterator ≡ length (into_iter_items l.outcome-iterator);
  tally : IsTally l.plan (length l.yielded) l.tally;
}
