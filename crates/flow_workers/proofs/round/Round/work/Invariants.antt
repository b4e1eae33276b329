use Rattle.std.proofs.Common.{All}
use Rattle.flow_workers.specs.internal.Pieces.{reading_of}
use Rattle.flow_workers.specs.internal.Replies.{HasPlace, StandsFor}
use Rattle.flow_workers.proofs.round.Round.work.Given as goal

-- what was found so far
abbrev pub invariant-taken : goal.invariant-taken
invariant-taken g l =
    All (HasPlace l.self.dealt.now) l.replies.items
    × All (StandsFor (reading_of g.K.Kept.text g.K.Kept.mark l.self.sought.now) l.self.dealt.now) l.replies.items
