use Rattle.flow_search.specs.internal.Tally.{IsTally}
use Rattle.flow_search.proofs.verdict.solve_plain.Given as goal

abbrev pub invariant-loop-number : goal.invariant-loop-number
invariant-loop-number l = IsTally l.plan l.number l.tally
