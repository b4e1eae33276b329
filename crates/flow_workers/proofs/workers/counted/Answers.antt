use Rattle.std.proofs.Common.{ℕ, [], IfSome, replicate, sym, subst}
use Rattle.flow_directions.specs.Search.{IsCounted}
use Rattle.flow_workers.specs.internal.Found.{IsEnded}
use Rattle.flow_workers.specs.internal.Pieces.{Reading, reading_of}
use Rattle.flow_workers.proofs.FoundByPieces.{counted-by}
use Rattle.flow_workers.proofs.workers.counted.Goals as goal

pub returns-in-Some-clause-counted : goal.returns-in-Some-clause-counted
returns-in-Some-clause-counted g c =
    let sought = c.args.sought.now in
    let reading : Reading ℕ = reading_of (λ count. replicate count 0) (λ sign. 0) sought in
    subst (IsCounted sought.instance.now sought.threshold c.args.budget [] []) (sym c.counted_of.ensures)
    (counted-by sought c.args.budget c.in-Some.ended
    (subst (λ ended. IfSome ended (IsEnded reading c.args.budget)) c.in-Some.is c.in_ok-search_by.ensures.ended))
