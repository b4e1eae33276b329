use Rattle.std.proofs.Common.{ap, sym, ◌∙◌}
use Rattle.flow_parts.specs.Meanings.{behind}
use Rattle.flow_workers.specs.internal.Pieces.{piece_met, pieces_met}
use Rattle.flow_parts.proofs.Behind.{behind-assoc}
use Rattle.flow_workers.proofs.PieceSteps.{pieces-more}
use Rattle.flow_workers.proofs.deal.put_run.Goals as goal

pub pieces-preserved : goal.pieces-preserved
pieces-preserved g c reading =
    let run = c.pop_back.new.self.items in
    let piece = c.in-Some.piece in
    let pieces = c.pieces.pieces.items in
    ap (behind (pieces_met reading run)) (c.in_ok-put_first.ensures reading)
    ∙ sym (behind-assoc (pieces_met reading run) (piece_met reading piece) (pieces_met reading pieces))
    ∙ ap (λ m. behind m (pieces_met reading pieces))
    (sym (ap (pieces_met reading) c.in-Some.ensures.items ∙ pieces-more reading run piece))
    ∙ c.pieces.invariant reading
