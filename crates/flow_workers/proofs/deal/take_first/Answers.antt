use Rattle.std.proofs.Common.{◌∷◌, ap, sym, ◌∙◌, subst, arith}
use Rattle.flow_shop.specs.Directions.{first_with, last_with}
use Rattle.flow_directions.specs.Search.{part_visits}
use Rattle.flow_parts.specs.Meanings.{behind}
use Rattle.flow_workers.specs.internal.Pieces.{Reading, kept_met, pieces_met, reading_of}
use Rattle.flow_workers.specs.internal.Taken.{IsNodeOf}
use Rattle.flow_workers.specs.declared.piece.Piece.TheVariants.{Left}
use Rattle.flow_workers.proofs.PieceSteps.{children-met, first-and-others}
use Rattle.flow_workers.proofs.deal.take_first.Goals as goal

pub returns : goal.returns
returns g c sought =
    let reading : Reading g.row.K.Denot = reading_of g.K.Kept.text g.K.Kept.mark sought in
    let rest = c.pop_front.new.self.items in
    let end = c.in-Left-Children.end in
    let first = c.in-Left-Children.first in
    let last = c.in-Left-Children.last in
    let jobs = c.in-Left-Children.jobs in
    let others = c.remove-job.new.self in
    let job = c.remove-job.result in
    let node = c.in_ok-node.node in
    let is = subst (λ xs. IsNodeOf (first_with end xs job) (last_with end last.items job) node)
    c.as_slice.ensures.value
    (subst (λ xs. IsNodeOf (first_with end c.as_slice.result.now job) (last_with end xs job) node)
    c.as_slice-2.ensures.value c.in_ok-node.ensures) in
    ap (λ xs. behind (kept_met reading.mark (part_visits reading.shop reading.threshold node)) (pieces_met reading xs))
    c.in_ok-push_front.ensures.items
    ∙ children-met reading end first last jobs others job node rest is
    (first-and-others jobs.items others.items job (omega (arith, c.remove-job.ensures.len)) c.remove-job.ensures.value
    c.remove-job.ensures.items)
    ∙ sym (ap (pieces_met reading) c.in-Some.ensures.items
    ∙ ap (λ p. pieces_met reading (p ∷ rest)) (c.in-Left-Children.is ∙ ap Left c.in-Left-Children.field-0-is))
