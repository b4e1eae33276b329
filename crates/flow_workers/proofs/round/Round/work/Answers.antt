use Rattle.std.proofs.Common.{◌++◌, option_to_list}
use Rattle.std.proofs.lemmas.List.Elements.{All-append, All-same}
use Rattle.flow_workers.specs.internal.Pieces.{Reading, reading_of}
use Rattle.flow_workers.specs.internal.Replies.{HasPlace, StandsFor}
use Rattle.flow_workers.proofs.ReplySteps.{all-of-one}
use Rattle.flow_workers.proofs.round.Round.work.Goals as goal

pub taken-preserved : goal.taken-preserved
taken-preserved g c =
    let dealt = c.args.self.now.dealt.now in
    let reading : Reading g.row.K.Denot = reading_of g.K.Kept.text g.K.Kept.mark c.args.self.now.sought.now in
    let reply = c.in_ok-reply.reply in
    let old = c.taken.replies.items in
    let new = c.add_reply.new.replies.items in (
      All-same (HasPlace dealt) new (old ++ option_to_list reply) c.in_ok-add_reply.ensures
          (All-append (HasPlace dealt) old (option_to_list reply) c.taken.invariant.0
          (all-of-one (HasPlace dealt) reply c.in_ok-reply.ensures.place)),
      All-same (StandsFor reading dealt) new (old ++ option_to_list reply) c.in_ok-add_reply.ensures
          (All-append (StandsFor reading dealt) old (option_to_list reply) c.taken.invariant.1
          (all-of-one (StandsFor reading dealt) reply c.in_ok-reply.ensures.stands)),
    )
