use Rattle.std.proofs.Common.{◌≡◌, ◌++◌, ◌∷◌, codes, take, decimal, flat_map}
use Rattle.flow_commands.proofs.printed.sequence_line.Given as goal

abbrev pub invariant-loop-job : goal.invariant-loop-job
invariant-loop-job l = l.line.items ≡ codes "sequence" ++ flat_map (λ job. 32 ∷ decimal job) (take l.job-index l.jobs)
