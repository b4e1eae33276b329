use Rattle.std.proofs.Common.{◌≡◌, None, length}
use Rattle.flow_parts.specs.Meanings.{behind}
use Rattle.flow_workers.specs.declared.node.Sought.{Sought}
use Rattle.flow_workers.specs.internal.Pieces.{pieces_met, reading_of}
use Rattle.flow_workers.proofs.workers.settle.Given as goal

abbrev pub invariant-pieces : goal.invariant-pieces
invariant-pieces g l = (sought : Sought) →
    behind (g.K.Kept.text l.text, None) (pieces_met (reading_of g.K.Kept.text g.K.Kept.mark sought) l.pieces.items)
    ≡ behind (g.K.Kept.text l.fn.text, None)
    (pieces_met (reading_of g.K.Kept.text g.K.Kept.mark sought) l.fn.pieces.items)

abbrev pub decreases-pieces : goal.decreases-pieces
decreases-pieces g l = length l.pieces.items
