use Rattle.flow_search.proofs.Prefixes.{IsOnTheWay}
use Rattle.flow_search.proofs.outcome.search_prefix.Given as goal

abbrev pub invariant-loop-job : goal.invariant-loop-job
invariant-loop-job l = IsOnTheWay l.plan l.prefix l.job-index l.front l.search
