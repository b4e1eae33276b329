use Rattle.std.proofs.Common.{◌≡◌, drop}
use Rattle.flow_search.specs.Verdicts.{first_refusal}
use Rattle.flow_search.proofs.verdict.first_refusal.Given as goal

abbrev pub invariant-loop-number : goal.invariant-loop-number
invariant-loop-number l = first_refusal l.number (drop l.number l.outcomes) ≡ first_refusal 0 l.outcomes
