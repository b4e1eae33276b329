use Rattle.std.proofs.Common.{◌≡◌, length}
use Rattle.flow_parts.specs.Meanings.{behind}
use Rattle.flow_workers.specs.internal.Pieces.{Reading, pieces_met}
use Rattle.flow_workers.proofs.deal.put_run.Given as goal

-- the pieces that are still to be put, and those before which they are put
abbrev pub invariant-pieces : goal.invariant-pieces
invariant-pieces g l = (reading : Reading g.row.K.Denot) →
    behind (pieces_met reading l.run.items) (pieces_met reading l.pieces.items)
    ≡ behind (pieces_met reading l.fn.run.items) (pieces_met reading l.fn.pieces.items)

abbrev pub decreases-pieces : goal.decreases-pieces
decreases-pieces g l = length l.run.items
