use Rattle.std.proofs.Common.{◌≡◌, length}
use Rattle.flow_parts.specs.Meanings.{behind}
use Rattle.flow_workers.specs.internal.Pieces.{Reading, all_met, pieces_met}
use Rattle.flow_workers.proofs.deal.put_back.Given as goal

-- what is still to be put, and the pieces before which it is put
abbrev pub invariant-dealt : goal.invariant-dealt
invariant-dealt g l = (reading : Reading g.row.K.Denot) →
    behind (all_met reading l.dealt.items) (pieces_met reading l.pieces.items)
    ≡ behind (all_met reading l.fn.dealt.items) (pieces_met reading l.fn.pieces.items)

abbrev pub decreases-dealt : goal.decreases-dealt
decreases-dealt g l = length l.dealt.items
