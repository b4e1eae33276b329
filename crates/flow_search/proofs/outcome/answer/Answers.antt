use Rattle.std.proofs.Common.{subst, sym}
use Rattle.flow_shop.specs.Sequences.{IsSequence}
use Rattle.flow_search.proofs.outcome.answer.Goals as goal

pub best_found-requires : goal.best_found-requires
best_found-requires c improved =
    let is = c.in-Ok.ensures.sequence improved in
    subst (λ n. IsSequence n c.in-Ok.search.best.items) (sym is.whole) is
