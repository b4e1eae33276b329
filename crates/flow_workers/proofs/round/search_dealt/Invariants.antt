use Rattle.std.proofs.Common.{All, IfOk, length}
use Rattle.flow_workers.specs.internal.Pieces.{reading_of}
use Rattle.flow_workers.specs.internal.Replies.{HasPlace, StandsFor}
use Rattle.flow_workers.proofs.round.search_dealt.Given as goal

-- the lists that are left, and what they were joined to so far
abbrev pub invariant-lists : goal.invariant-lists
invariant-lists g l =
    All (λ list. IfOk list (λ replies. All (HasPlace l.fn.dealt) replies.items)) l.lists.items
    × All (λ list. IfOk list (λ replies.
    All (StandsFor (reading_of g.K.Kept.text g.K.Kept.mark l.fn.sought) l.fn.dealt) replies.items)) l.lists.items
    × All (HasPlace l.fn.dealt) l.replies.items
    × All (StandsFor (reading_of g.K.Kept.text g.K.Kept.mark l.fn.sought) l.fn.dealt) l.replies.items

abbrev pub decreases-lists : goal.decreases-lists
decreases-lists g l = length l.lists.items
