use Rattle.std.proofs.Common.{◌≡◌, ℕ, List, ◌/◌, ◌<◌, length, slice_index_or, refl, ap, sym, ◌∙◌, subst, arith, inl, inr}
use Rattle.flow_shop.proofs.Lists.{some-of}
use Rattle.flow_nodes.specs.Groups.{IsGroup}
use Rattle.flow_nodes.specs.internal.Bytes.{HaveSlacks}
use Rattle.flow_nodes.proofs.LeftBelow.{kept-left-below}
use Rattle.flow_nodes.proofs.SpreadSteps.{few-small, node-small-bound}
use Rattle.flow_nodes.proofs.opener.Opener.mark_by_bytes.Goals as goal

pub write_bytes-requires : goal.write_bytes-requires
write_bytes-requires g c =
    let at = c.requires.at in (
      at.0,
      at.2,
      at.3,
      at.4,
      at.10,
      at.11,
      omega (arith, at.7, at.8, node-small-bound at.0 at.2 at.3 c.args.node.now at.4),
    )

pub mark_open-union-requires-clause-few : goal.mark_open-union-requires-clause-few
mark_open-union-requires-clause-few g c =
    omega (arith, ap length c.as_slice.ensures.value, c.requires.count, c.requires.at.5.room.few)

pub mark_open-union-requires-clause-gaps : goal.mark_open-union-requires-clause-gaps
mark_open-union-requires-clause-gaps g c group none low =
    let at = c.requires.at in
    c.write_bytes.ensures.gap_count ∙ at.10
    ∙ sym (ap (λ l. length (slice_index_or l group none).items) c.as_slice.ensures.value
    ∙ at.9.machines group none (omega (arith, low, ap length c.as_slice.ensures.value)))

pub mark_open-union-requires-clause-slacks : goal.mark_open-union-requires-clause-slacks
mark_open-union-requires-clause-slacks g c group none low =
    let at = c.requires.at in
    c.write_bytes.ensures.slack_count ∙ at.11
    ∙ sym (ap (λ l. length (slice_index_or l group none).items) c.as_slice.ensures.value
    ∙ at.9.machines group none (omega (arith, low, ap length c.as_slice.ensures.value)))

pub mark_few-requires-clause-constant : goal.mark_few-requires-clause-constant
mark_few-requires-clause-constant g c group none low =
    let at = c.requires.at in
    elim c.requires.constant [
      | inl unknown ↦ inl unknown
      | inr all ↦
          inr (all ∙ at.6.machines
          ∙ sym (ap (λ l. length (slice_index_or l group none).items) c.as_slice-then-union-ne0.ensures.value
          ∙ at.5.room.machines group none (omega (arith, low, ap length c.as_slice-then-union-ne0.ensures.value))))
    ]

pub mark_few-requires-clause-small : goal.mark_few-requires-clause-small
mark_few-requires-clause-small g c group none within place low =
    let at = c.requires.at in
    few-small at.0 at.1 at.2 at.3 g.V.Vector.CAP c.args.self.now.limit c.args.node.now at.4 at.8 at.7 c.requires.limit
    (length (slice_index_or c.as_slice-then-union-ne0.result.now group none).items)
    (ap (λ l. length (slice_index_or l group none).items) c.as_slice-then-union-ne0.ensures.value
    ∙ at.5.room.machines group none (omega (arith, within, ap length c.as_slice-then-union-ne0.ensures.value)))
    place low

pub returns-then-union-ne0-clause-below : goal.returns-then-union-ne0-clause-below
returns-then-union-ne0-clause-below g c shop threshold first last limit is is_pack bytes has_left =
    let pack = c.args.pack.now in
    let kept = c.mark_open-union.new.kept in
    let groups = pack.groups.items in
    let said = c.write_bytes.ensures in
    let long : length c.as_slice.result.now ≡ length groups = ap length c.as_slice.ensures.value ∙ c.requires.count in
    kept-left-below g.V.Vector.list g.V.Vector.CAP g.V.Vector.WIDTH shop threshold c.args.end first last pack
    c.args.left.now c.mark_few.new.below c.as_slice-then-union-ne0.result.now c.as_slice-then-union-ne0.ensures.value kept is_pack has_left
    (λ place low marked. c.mark_open-union.ensures.within place (omega (arith, low, long, ap length c.as_slice-then-union-ne0.ensures.value)) marked)
    (λ place low marked. c.mark_few.ensures.within place low marked)
    (λ jobs place low jobs_are was fresh.
    let within : place / 16 < length c.as_slice.result.now = omega (arith, low, long, ap length c.as_slice-then-union-ne0.ensures.value) in
    let none = some-of c.as_slice.result.now (omega (arith, within)) in
    let times : IsGroup (λ (lanes : List ℕ). lanes) 255 16 shop jobs
    (slice_index_or c.as_slice.result.now (place / 16) none).items =
    subst (λ l. IsGroup (λ (lanes : List ℕ). lanes) 255 16 shop jobs (slice_index_or l (place / 16) none).items)
    (sym c.as_slice.ensures.value)
    (subst (λ js. IsGroup (λ (lanes : List ℕ). lanes) 255 16 shop js
    (slice_index_or pack.bytes.items (place / 16) none).items) (sym jobs_are)
    (bytes.each (place / 16) none (omega (arith, within, ap length c.as_slice.ensures.value)))) in
    c.mark_open-union.ensures.rest shop threshold first last jobs c.args.node.now place none (said.limit ∙ limit) is
    said.gaps (subst (λ n. HaveSlacks n c.args.node.now c.write_bytes.new.self.slacks.items) (sym said.limit) said.slacks)
    within times was fresh)
    (λ jobs place none low are stays fresh.
    c.mark_few.ensures.exact shop threshold first last jobs place none (said.limit ∙ limit) is low are stays fresh)

pub returns-else-union-ne0-clause-below : goal.returns-else-union-ne0-clause-below
returns-else-union-ne0-clause-below g c shop threshold first last limit is is_pack bytes has_left =
    let pack = c.args.pack.now in
    let kept = c.mark_open-union.new.kept in
    let groups = pack.groups.items in
    let said = c.write_bytes.ensures in
    let long : length c.as_slice.result.now ≡ length groups = ap length c.as_slice.ensures.value ∙ c.requires.count in
    kept-left-below g.V.Vector.list g.V.Vector.CAP g.V.Vector.WIDTH shop threshold c.args.end first last pack
    c.args.left.now kept groups refl kept is_pack has_left
    (λ place low marked. c.mark_open-union.ensures.within place (omega (arith, low, long)) marked)
    (λ place low marked. marked)
    (λ jobs place low jobs_are was fresh.
    let within : place / 16 < length c.as_slice.result.now = omega (arith, low, long) in
    let none = some-of c.as_slice.result.now (omega (arith, within)) in
    let times : IsGroup (λ (lanes : List ℕ). lanes) 255 16 shop jobs
    (slice_index_or c.as_slice.result.now (place / 16) none).items =
    subst (λ l. IsGroup (λ (lanes : List ℕ). lanes) 255 16 shop jobs (slice_index_or l (place / 16) none).items)
    (sym c.as_slice.ensures.value)
    (subst (λ js. IsGroup (λ (lanes : List ℕ). lanes) 255 16 shop js
    (slice_index_or pack.bytes.items (place / 16) none).items) (sym jobs_are)
    (bytes.each (place / 16) none (omega (arith, within, ap length c.as_slice.ensures.value)))) in
    c.mark_open-union.ensures.rest shop threshold first last jobs c.args.node.now place none (said.limit ∙ limit) is
    said.gaps (subst (λ n. HaveSlacks n c.args.node.now c.write_bytes.new.self.slacks.items) (sym said.limit) said.slacks)
    within times was fresh)
    (λ jobs place none low are stays fresh.
    absurd (omega (
      arith,
      stays,
      c.mark_open-union.ensures.none c.if-union-ne0.false place (omega (arith, low, long)),
    )))
