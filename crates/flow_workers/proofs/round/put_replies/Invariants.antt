use Rattle.std.proofs.Common.{◌≡◌, ℕ, ◌<◌, All, length, slice_index_or}
use Rattle.flow_workers.specs.internal.Replies.{HasPlace, StandsFor}
use Rattle.flow_workers.specs.internal.Pieces.{Reading, dealt_met}
use Rattle.flow_workers.specs.declared.piece.Dealt.{Dealt}
use Rattle.flow_workers.proofs.round.put_replies.Given as goal

-- each piece stands for the same as at first
abbrev pub invariant-replies : goal.invariant-replies
invariant-replies g l =
    (length l.dealt ≡ length l.fn.dealt) × All (HasPlace l.fn.dealt) l.replies.items
    × ((reading : Reading g.row.K.Denot) → All (StandsFor reading l.fn.dealt) l.fn.replies.items →
    All (StandsFor reading l.fn.dealt) l.replies.items
    × ((k : ℕ) (d : Dealt g.row.K.Denot) → k < length l.fn.dealt →
    dealt_met reading (slice_index_or l.dealt k d) ≡ dealt_met reading (slice_index_or l.fn.dealt k d)))

abbrev pub decreases-replies : goal.decreases-replies
decreases-replies g l = length l.replies.items
