use Rattle.std.proofs.Common.{◌≡◌, None, []}
use Rattle.flow_directions.specs.Search.{visits}
use Rattle.flow_parts.specs.Meanings.{behind}
use Rattle.flow_workers.specs.internal.Pieces.{kept_met, pieces_met, reading_of}
use Rattle.flow_workers.proofs.workers.search_by.Given as goal

-- the directions so far, and then what the pieces stand for
abbrev pub invariant-rounds : goal.invariant-rounds
invariant-rounds g l =
    behind (g.K.Kept.text l.text, None)
    (pieces_met (reading_of g.K.Kept.text g.K.Kept.mark l.sought) l.pieces.items)
    ≡ kept_met g.K.Kept.mark (visits l.sought.instance.now l.sought.threshold [] [])
