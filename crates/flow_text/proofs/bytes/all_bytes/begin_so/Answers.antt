use Rattle.std.proofs.Common.{◌∙◌, sym, subst}
use Rattle.std.proofs.lemmas.Bool.{false≢true}
use Rattle.std.proofs.lemmas.Bool.Decides.{Decides-eqb}
use Rattle.std.proofs.lemmas.Slice.Eq.{starts_is}
use Rattle.flow_shop.specs.Sequences.{Extends}
use Rattle.flow_text.proofs.Begins.{begin-back, begin-front, begin-parts, begin-whole}
use Rattle.flow_text.proofs.bytes.all_bytes.begin_so.Goals as goal

pub returns-then-starts_with-clause-yes : goal.returns-then-starts_with-clause-yes
returns-then-starts_with-clause-yes c = λ e.
    let all = c.args.all.now in
    let next = c.args.next.now in
    let front = begin-front all _ _ _ c.min.ensures c.split_at.ensures.front in
    let back = begin-back all _ _ _ c.min.ensures c.split_at.ensures.back in
    let first = (starts_is Decides-eqb all _ _ c.starts_with.ensures.value).0 c.if-starts_with.true in
    let second = (starts_is Decides-eqb next _ _ c.starts_with-then-starts_with.ensures.value).0 e in
    begin-whole all next _ (subst (Extends all) front (_, first)) (subst (Extends next) back (_, second))

pub returns-then-starts_with-clause-no : goal.returns-then-starts_with-clause-no
returns-then-starts_with-clause-no c = λ e begins.
    let next = c.args.next.now in
    let back = begin-back _ _ _ _ c.min.ensures c.split_at.ensures.back in
    let part = subst (Extends next) (sym back) (begin-parts _ next _ begins).1 in
    let is = (starts_is Decides-eqb next _ _ c.starts_with-then-starts_with.ensures.value).1 part.0 part.1 in
    false≢true (sym e ∙ is)

pub returns-else-starts_with-clause-no : goal.returns-else-starts_with-clause-no
returns-else-starts_with-clause-no c = λ e begins.
    let all = c.args.all.now in
    let front = begin-front all _ _ _ c.min.ensures c.split_at.ensures.front in
    let part = subst (Extends all) (sym front) (begin-parts all _ _ begins).0 in
    let is = (starts_is Decides-eqb all _ _ c.starts_with.ensures.value).1 part.0 part.1 in
    false≢true (sym e ∙ is)
