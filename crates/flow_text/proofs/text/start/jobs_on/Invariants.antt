use Rattle.std.proofs.Common.{◌≡◌, take, drop}
use Rattle.flow_text.specs.StartText.{are_jobs}
use Rattle.flow_text.proofs.text.start.jobs_on.Given as goal

-- the numbers so far are jobs, and the rest decides
abbrev pub invariant-loop-number : goal.invariant-loop-number
invariant-loop-number l = record {
  jobs : l.jobs.items ≡ take l.number-index l.number-items;
  rest : are_jobs l.number-items ≡ are_jobs (drop l.number-index l.number-items);
}
