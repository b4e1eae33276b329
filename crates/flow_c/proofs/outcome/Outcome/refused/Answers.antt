use Rattle.std.proofs.Common.{ℕ, ap, sym, ◌∙◌}
use Rattle.flow_c.proofs.Ended.{no-place}
use Rattle.flow_c.proofs.outcome.Outcome.refused.Goals as goal

-- where memory ran out there is no place
pub returns-clause-memory : goal.returns-clause-memory
returns-clause-memory c is =
    ap (λ (s : ℕ × ℕ). s.1) c.status-status.ensures
    ∙ no-place c.args.fault (sym (ap (λ (s : ℕ × ℕ). s.0) c.status-status.ensures) ∙ is)
