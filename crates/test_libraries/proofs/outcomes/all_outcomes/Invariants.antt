use Rattle.std.proofs.Common.{◌≡◌, length}
use Rattle.flow_search.specs.Outcomes.{AreLawful}
use Rattle.test_libraries.proofs.outcomes.all_outcomes.Given as goal

abbrev pub invariant-loop-number : goal.invariant-loop-number
invariant-loop-number l = record {
  count : length l.outcomes.items ≡ l.number;
  lawful : AreLawful l.plan l.outcomes.items;
}
