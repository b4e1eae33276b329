use Rattle.std.proofs.Common.{length, slice_index_or, ap, sym, ◌∙◌, inl, inr, arith}
use Rattle.flow_nodes.proofs.LeftBelow.{jobs-left-below}
use Rattle.flow_nodes.proofs.SpreadSteps.{few-small}
use Rattle.flow_nodes.proofs.opener.Opener.mark_below.Goals as goal

pub mark_few-requires-clause-constant : goal.mark_few-requires-clause-constant
mark_few-requires-clause-constant g c group none low =
    let at = c.requires.at in
    elim c.requires.constant [
      | inl unknown ↦ inl unknown
      | inr all ↦
          inr (all ∙ at.6.machines
          ∙ sym (ap (λ l. length (slice_index_or l group none).items) c.as_slice.ensures.value
          ∙ at.5.room.machines group none (omega (arith, low, ap length c.as_slice.ensures.value))))
    ]

pub mark_few-requires-clause-small : goal.mark_few-requires-clause-small
mark_few-requires-clause-small g c group none within place low =
    let at = c.requires.at in
    few-small at.0 at.1 at.2 at.3 g.V.Vector.CAP c.args.self.now.limit c.args.node.now at.4 at.8 at.7 c.requires.limit
    (length (slice_index_or c.as_slice.result.now group none).items)
    (ap (λ l. length (slice_index_or l group none).items) c.as_slice.ensures.value
    ∙ at.5.room.machines group none (omega (arith, within, ap length c.as_slice.ensures.value)))
    place low

pub returns-else-reads_bytes-clause-below : goal.returns-else-reads_bytes-clause-below
returns-else-reads_bytes-clause-below g c shop threshold first last limit is is_pack bytes has_left =
    jobs-left-below g.V.Vector.list g.V.Vector.CAP g.V.Vector.WIDTH shop threshold c.args.end first last c.args.pack.now
    c.args.left.now c.mark_few.new.below c.as_slice.result.now c.as_slice.ensures.value is_pack has_left
    c.mark_few.ensures.within
    (λ jobs place none within are was fresh.
    c.mark_few.ensures.exact shop threshold first last jobs place none limit is within are was fresh)
