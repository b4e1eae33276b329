use Rattle.std.proofs.Common.{◌≡◌, ◌∙◌, ℕ, ◌++◌, List, codes, decimal, nat_lt, if◌then◌else◌, ap, sym, refl}
use Rattle.std.proofs.lemmas.Bool.{ne_eqb, lt-ltb}
use Rattle.flow_schedule.specs.PictureHead.{value_text}
use Rattle.flow_schedule.proofs.Texts.{words-first, words-next}
use Rattle.flow_schedule.proofs.picture_head.push_value.Goals as goal

pub returns-in_ok-push_words-2 : goal.returns-in_ok-push_words-2
returns-in_ok-push_words-2 c =
    let plain : List ℕ = codes "makespan " ++ decimal c.args.makespan in
    let bounded : List ℕ = plain ++ codes ", lower bound " ++ decimal c.in-Some.lower in
    let one = words-first c.args.out.now.items _ c.in_ok-push_words.ensures refl in
    let two = words-next c.args.out.now.items _ _ one c.in_ok-push_words-2.ensures refl in
    let value : value_text c.args.makespan c.args.lower ≡ bounded =
    ap (value_text c.args.makespan) c.in-Some.is
    ∙ ap (λ same. if same then codes "optimal " ++ decimal c.args.makespan
    else if nat_lt c.in-Some.lower c.args.makespan then bounded else plain)
    (ne_eqb c.in-Some.lower c.args.makespan c.if-lower-makespan.false)
    ∙ ap (λ below. if below then bounded else plain)
    (lt-ltb c.in-Some.lower c.args.makespan c.if-lower-makespan-2.true) in
    two ∙ ap (λ text. c.args.out.now.items ++ text) (sym value)
