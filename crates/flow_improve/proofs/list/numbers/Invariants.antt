use Rattle.std.proofs.Common.{◌-◌}
use Rattle.flow_shop.specs.Sequences.{IsSequence}
use Rattle.flow_improve.proofs.list.numbers.Given as goal

-- the jobs so far
abbrev pub invariant-loop-job : goal.invariant-loop-job
invariant-loop-job l = IsSequence (l.job - 1) l.numbers.items
