use Rattle.std.proofs.Common.{◌++◌, All, IfOk, Some, subst}
use Rattle.std.proofs.lemmas.List.Elements.{All-append, All-pop, All-same}
use Rattle.flow_workers.specs.internal.Pieces.{Reading, reading_of}
use Rattle.flow_workers.specs.internal.Replies.{HasPlace, StandsFor}
use Rattle.flow_workers.proofs.round.search_dealt.Goals as goal

pub lists-preserved : goal.lists-preserved
lists-preserved g c =
    let dealt = c.args.dealt.now in
    let reading : Reading g.row.K.Denot = reading_of g.K.Kept.text g.K.Kept.mark c.args.sought.now in
    let places = All-pop (λ list. IfOk list (λ replies. All (HasPlace dealt) replies.items)) c.lists.lists.items
    c.pop.new.self.items (Some c.in-Some.list) c.in-Some.ensures.items c.lists.invariant.0 in
    let stand = All-pop (λ list. IfOk list (λ replies. All (StandsFor reading dealt) replies.items))
    c.lists.lists.items c.pop.new.self.items (Some c.in-Some.list) c.in-Some.ensures.items c.lists.invariant.1 in
    let old = c.lists.replies.items in
    let more = c.in_ok-list.list.items in
    let new = c.append.new.self.items in
    let here : All (HasPlace dealt) more =
    subst (λ list. IfOk list (λ replies. All (HasPlace dealt) replies.items)) c.in_ok-list.was places.1 in
    let there : All (StandsFor reading dealt) more =
    subst (λ list. IfOk list (λ replies. All (StandsFor reading dealt) replies.items)) c.in_ok-list.was stand.1 in (
      places.0,
      stand.0,
      All-same (HasPlace dealt) new (old ++ more) c.in_ok-append.ensures.items
          (All-append (HasPlace dealt) old more c.lists.invariant.2 here),
      All-same (StandsFor reading dealt) new (old ++ more) c.in_ok-append.ensures.items
          (All-append (StandsFor reading dealt) old more c.lists.invariant.3 there),
    )
