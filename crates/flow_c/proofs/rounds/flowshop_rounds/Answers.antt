use Rattle.std.proofs.Common.{◌≡◌, nat_le, cond, IfOk, ap, subst, sym, ◌∙◌}
use Rattle.flow_bound.specs.Taillard.{taillard_bound}
use Rattle.flow_c.specs.Faults.{shop_of}
use Rattle.flow_c.proofs.rounds.flowshop_rounds.Goals as goal

pub returns-clause-gives : goal.returns-clause-gives
returns-clause-gives c = c.answer.ensures.gives _ _ _ c.rounds_of-found.ensures.finds

pub returns-clause-whole : goal.returns-clause-whole
returns-clause-whole c done =
    let told = c.answer.ensures.told done in
    let least = taillard_bound (shop_of c.args.shop.now) in
    let whole = subst (λ found. IfOk found (λ reached. reached.whole ≡ nat_le reached.value least)) told.1
    c.rounds_of-found.ensures.whole in
    told.3 ∙ ap (λ b. cond b 1 0) whole ∙ ap (λ value. cond (nat_le value least) 1 0) (sym told.2)
