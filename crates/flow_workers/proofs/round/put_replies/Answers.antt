use Rattle.std.proofs.Common.{◌<◌, length, Some, ap, ◌∙◌, arith, slice_index_or}
use Rattle.std.proofs.lemmas.List.Elements.{All-pop}
use Rattle.flow_workers.specs.internal.Pieces.{dealt_met}
use Rattle.flow_workers.specs.internal.Replies.{HasPlace, StandsFor}
use Rattle.flow_workers.proofs.PieceSteps.{all-same}
use Rattle.flow_workers.proofs.ReplySteps.{put-same}
use Rattle.flow_workers.proofs.round.put_replies.Goals as goal

pub put_reply-requires : goal.put_reply-requires
put_reply-requires g c = omega (
  arith,
  (All-pop (HasPlace c.args.dealt.now) c.replies.replies.items c.pop.new.self.items (Some c.in-Some.reply)
      c.in-Some.ensures.items c.replies.invariant.1).1,
  c.replies.invariant.0,
)

pub replies-preserved : goal.replies-preserved
replies-preserved g c =
    let first = c.args.dealt.now in
    let old = c.replies.dealt in
    let reply = c.in-Some.reply in
    let places = All-pop (HasPlace first) c.replies.replies.items c.pop.new.self.items (Some reply)
    c.in-Some.ensures.items c.replies.invariant.1 in
    let inside : reply.place < length old = omega (arith, places.1, c.replies.invariant.0) in (
      omega (arith, c.put_reply.auto.dealt, c.replies.invariant.0),
      places.0,
      λ reading stand.
          let before = c.replies.invariant.2 reading stand in
          let stands = All-pop (StandsFor reading first) c.replies.replies.items c.pop.new.self.items (Some reply)
          c.in-Some.ensures.items before.0 in (
            stands.0,
            λ k d within.
                ap (λ xs. dealt_met reading (slice_index_or xs k d)) c.put_reply.ensures
                ∙ put-same reading first old reply stands.1 inside before.1 k d within,
          ),
    )

pub returns-clause-met : goal.returns-clause-met
returns-clause-met g c reading stand =
    all-same reading c.args.dealt.now c.replies.dealt c.replies.invariant.0 (c.replies.invariant.2 reading stand).1
