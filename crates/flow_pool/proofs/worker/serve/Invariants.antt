use Rattle.std.proofs.Common.{◌≡◌}
use Rattle.std.specs.Prelude.{All}
use Rattle.flow_pool.specs.Work.{IsLawfulAnswer, asking, answered}
use Rattle.flow_pool.proofs.worker.serve.Given as goal

abbrev pub invariant-loop : goal.invariant-loop
invariant-loop g l =
    (goal.iterator-loop g).can_next l.iterator' × (goal.iterator-loop g).is_finite l.iterator'
    × (l.ends.tasks.lane ≡ l.fn.ends.tasks.lane)
    × (l.ends.answers.lane ≡ l.fn.ends.answers.lane)
    × (l.ends.tasks.received ≡ asking (answered l.ends.answers.sent)) × All (IsLawfulAnswer l.plan) l.ends.answers.sent
