use Rattle.std.proofs.Common.{rules, ◌≡◌, ◌+◌, ◌^◌, ◌++◌, ◌∷◌, [], None, length, ap, sym, ◌∙◌, arith}
use Rattle.flow_directions.specs.declared.found.Part.TheVariants.{Node}
use Rattle.flow_parts.specs.Meanings.{behind}
use Rattle.flow_workers.specs.internal.Pieces.{Reading, pieces_met, reading_of}
use Rattle.flow_workers.specs.declared.piece.Piece.TheVariants.{Left}
use Rattle.flow_workers.proofs.FoundByPieces.{ended-many, ended-over, ended-reached, first-node, is-reached, none-left}
use Rattle.flow_workers.proofs.workers.search_by.Goals as goal

pub rounds-init : goal.rounds-init
rounds-init g c =
    let reading : Reading g.row.K.Denot = reading_of g.K.Kept.text g.K.Kept.mark c.args.sought.now in
    first-node reading c.none-text.result c.new.result c.new-2.result c.push_back.new.self.items c.none-text.ensures
    (c.in_ok-push_back.ensures.items
    ∙ ap (λ xs. xs ++ Left (Node c.new.result c.new-2.result) ∷ []) c.new-pieces.ensures.items)
    c.new.ensures.items c.new-2.ensures.items

pub returns-then-not-branch-clause-ended : goal.returns-then-not-branch-clause-ended
returns-then-not-branch-clause-ended g c =
    let reading : Reading g.row.K.Denot = reading_of g.K.Kept.text g.K.Kept.mark c.args.sought.now in
    ended-many reading c.args.budget c.rounds.text c.rounds.pieces.items c.rounds.invariant (2 ^ 64) (omega arith)
    (c.in_ok-settle.ensures.many c.args.sought.now c.if-not-branch.true)

pub returns-then-written-budget-clause-ended : goal.returns-then-written-budget-clause-ended
returns-then-written-budget-clause-ended g c =
    let reading : Reading g.row.K.Denot = reading_of g.K.Kept.text g.K.Kept.mark c.args.sought.now in
    ended-over reading c.args.budget c.settle.new.text c.settle.new.pieces.items
    (c.in_ok-settle.ensures.met c.args.sought.now c.if-not-branch.false ∙ c.rounds.invariant)
    (omega (arith, c.if-written-budget.true, c.count-written.ensures))

pub returns-in-None-clause-ended : goal.returns-in-None-clause-ended
returns-in-None-clause-ended g c =
    let reading : Reading g.row.K.Denot = reading_of g.K.Kept.text g.K.Kept.mark c.args.sought.now in
    let none : c.settle.new.pieces.items ≡ [] = search rules in
    none-left reading c.args.budget c.settle.new.text c.settle.new.pieces.items
    (c.in_ok-settle.ensures.met c.args.sought.now c.if-not-branch.false ∙ c.rounds.invariant) none
    (omega (arith, c.if-written-budget.false, c.count-written.ensures))

pub reached-ended-requires-after_bounds : goal.reached-ended-requires-after_bounds
reached-ended-requires-after_bounds g c κs within =
    let reading : Reading g.row.K.Denot = reading_of g.K.Kept.text g.K.Kept.mark c.args.sought.now in
    let rest = c.pop_front.new.self.items in
    is-reached reading c.args.budget c.settle.new.text c.settle.new.pieces.items
    (c.in_ok-settle.ensures.met c.args.sought.now c.if-not-branch.false ∙ c.rounds.invariant)
    c.in-Some-Reached.sequence c.in-Some-Reached.directions rest
    (c.in-Some-Reached.ensures.items ∙ ap (λ p. p ∷ rest) c.in-Some-Reached.field-0-is)

pub returns-in-Some-Reached-clause-ended : goal.returns-in-Some-Reached-clause-ended
returns-in-Some-Reached-clause-ended g c =
    let reading : Reading g.row.K.Denot = reading_of g.K.Kept.text g.K.Kept.mark c.args.sought.now in
    let rest = c.pop_front.new.self.items in
    let more = length (g.K.Kept.text c.in-Some-Reached.directions) in
    ended-reached reading c.args.budget c.settle.new.text c.settle.new.pieces.items
    (c.in_ok-settle.ensures.met c.args.sought.now c.if-not-branch.false ∙ c.rounds.invariant)
    c.in-Some-Reached.sequence c.in-Some-Reached.directions rest
    (c.in-Some-Reached.ensures.items ∙ ap (λ p. p ∷ rest) c.in-Some-Reached.field-0-is)
    (c.count-written.result + more) c.reached-ended.result (ap (λ n. n + more) c.count-written.ensures)
    c.reached-ended.ensures

pub rounds-preserved : goal.rounds-preserved
rounds-preserved g c =
    let reading : Reading g.row.K.Denot = reading_of g.K.Kept.text g.K.Kept.mark c.args.sought.now in
    ap (behind (g.K.Kept.text c.settle.new.text, None))
    (c.in_ok-search_round.ensures
    ∙ ap (pieces_met reading) (c.in_ok-push_front-in-Some.ensures.items ∙ sym c.in-Some.ensures.items))
    ∙ c.in_ok-settle.ensures.met c.args.sought.now c.if-not-branch.false ∙ c.rounds.invariant
