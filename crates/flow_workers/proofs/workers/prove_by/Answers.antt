use Rattle.std.proofs.Common.{ℕ, [], IfSome, sym, subst}
use Rattle.std.specs.Global.{Vec}
use Rattle.flow_shop.proofs.SequenceLemmas.{no-jobs}
use Rattle.flow_directions.specs.Search.{IsFound}
use Rattle.flow_directions.proofs.FoundSteps.{found-shows}
use Rattle.flow_workers.specs.declared.node.Sought.{Sought}
use Rattle.flow_workers.specs.internal.Found.{IsEnded}
use Rattle.flow_workers.specs.internal.Pieces.{Reading, reading_of}
use Rattle.flow_workers.proofs.FoundByPieces.{found-by}
use Rattle.flow_workers.proofs.workers.prove_by.Goals as goal

pub returns-in-Some-clause-found : goal.returns-in-Some-clause-found
returns-in-Some-clause-found g c =
    let sought : Sought = record { alloc = c.args.alloc; instance = c.args.instance; threshold = c.args.threshold } in
    let reading : Reading (Vec ℕ) = reading_of (λ signs. signs.items) (λ sign. sign) sought in
    subst (IsFound c.args.instance.now c.args.threshold c.args.budget [] []) (sym c.found_of.ensures)
    (found-by sought c.args.budget c.in-Some.ended
    (subst (λ ended. IfSome ended (IsEnded reading c.args.budget)) c.in-Some.is c.in_ok-search_by.ensures.ended))

pub returns-in-Some-clause-shown : goal.returns-in-Some-clause-shown
returns-in-Some-clause-shown g c =
    found-shows c.args.instance.now c.args.threshold c.args.budget [] [] c.found_of.result
    (no-jobs c.args.instance.now.jobs) (returns-in-Some-clause-found g c)
