use Rattle.std.proofs.Common.{ap, sym, ◌∙◌}
use Rattle.flow_parts.specs.Meanings.{behind}
use Rattle.flow_workers.specs.internal.Taken.{taken_met}
use Rattle.flow_workers.specs.internal.Pieces.{Reading, piece_met, all_met, pieces_met, reading_of}
use Rattle.flow_workers.specs.declared.piece.Dealt.TheVariants.{Open}
use Rattle.flow_parts.proofs.Behind.{behind-assoc}
use Rattle.flow_workers.proofs.PieceSteps.{all-more}
use Rattle.flow_workers.proofs.deal.deal.Goals as goal

pub taken-preserved : goal.taken-preserved
taken-preserved g c sought =
    let reading : Reading g.row.K.Denot = reading_of g.K.Kept.text g.K.Kept.mark sought in
    let dealt = c.taken.dealt.items in
    let piece = c.in-Some.piece in
    let rest = c.take_first.new.pieces.items in
    ap (λ xs. behind (all_met reading xs) (pieces_met reading rest)) c.in_ok-push.ensures.items
    ∙ ap (λ m. behind m (pieces_met reading rest)) (all-more reading dealt (Open piece))
    ∙ behind-assoc (all_met reading dealt) (piece_met reading piece) (pieces_met reading rest)
    ∙ ap (behind (all_met reading dealt))
    (ap (λ p. behind (taken_met reading p) (pieces_met reading rest)) (sym c.in-Some.is)
    ∙ c.in_ok-piece.ensures sought)
    ∙ c.taken.invariant sought
