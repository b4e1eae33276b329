use Rattle.std.proofs.Common.{◌≡◌, length, ap, sym, ◌∙◌, subst, All, arith}
use Rattle.std.specs.Vec.{with_items}
use Rattle.std.proofs.lemmas.List.{with_items_is}
use Rattle.flow_workers.specs.internal.Replies.{StandsFor}
use Rattle.flow_parts.specs.Meanings.{behind}
use Rattle.flow_workers.specs.internal.Pieces.{Reading, pieces_met, all_met, reading_of}
use Rattle.flow_workers.proofs.round.search_round.Goals as goal

pub returns : goal.returns
returns g c =
    let reading : Reading g.row.K.Denot = reading_of g.K.Kept.text g.K.Kept.mark c.args.sought.now in
    let dealt = c.in_ok-dealt.dealt in
    let new = c.put_replies.new.dealt in
    let rest = c.deal.new.pieces.items in
    let are : (with_items dealt new).items ≡ new =
    with_items_is dealt new
    (omega (arith, c.put_replies.ensures.len, ap length c.as_mut_slice.ensures.value, dealt.ok.0)) in
    let stand = subst (λ xs. All (StandsFor reading xs) c.in_ok-replies.replies.items)
    (sym c.as_mut_slice.ensures.value)
    (subst (λ xs. All (StandsFor reading xs) c.in_ok-replies.replies.items) c.as_slice.ensures.value
    c.in_ok-replies.ensures.stand) in
    c.in_ok-put_back.ensures reading
    ∙ ap (λ xs. behind (all_met reading xs) (pieces_met reading rest)) are
    ∙ ap (λ m. behind m (pieces_met reading rest)) (c.put_replies.ensures.met reading stand
    ∙ ap (all_met reading) c.as_mut_slice.ensures.value)
    ∙ c.in_ok-dealt.ensures c.args.sought.now
