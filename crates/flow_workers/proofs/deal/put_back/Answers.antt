use Rattle.std.proofs.Common.{ap, ◌∙◌}
use Rattle.flow_workers.specs.internal.Pieces.{dealt_met, piece_met, pieces_met}
use Rattle.flow_workers.proofs.PieceSteps.{put-more}
use Rattle.flow_workers.proofs.deal.put_back.Goals as goal

pub dealt-preserved-in-Continue-1 : goal.dealt-preserved-in-Continue-1
dealt-preserved-in-Continue-1 g c reading =
    put-more reading c.pop.new.self.items c.in-Some.last (piece_met reading c.in-Open.piece) c.dealt.pieces.items
    c.put_first.new.pieces.items c.dealt.dealt.items c.in-Some.ensures.items
    (ap (dealt_met reading) c.in-Open.is) (c.in_ok-put_first-in-Open.ensures reading)
    ∙ c.dealt.invariant reading

pub dealt-preserved : goal.dealt-preserved
dealt-preserved g c reading =
    put-more reading c.pop.new.self.items c.in-Some.last (pieces_met reading c.in-Searched.run'.items)
    c.dealt.pieces.items c.put_run.new.pieces.items c.dealt.dealt.items c.in-Some.ensures.items
    (ap (dealt_met reading) c.in-Searched.is) (c.in_ok-put_run-in-Searched.ensures reading)
    ∙ c.dealt.invariant reading
