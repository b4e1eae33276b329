use Rattle.std.proofs.Common.{◌≡◌, ℕ, ◌+◌, ◌-◌, ◌*◌, ◌<◌, List, sum_by, take, drop, slice_index, slice_index_or, refl, ap, sym}
use Rattle.std.proofs.Common.{◌∙◌, length, arith}
use Rattle.std.specs.Prelude.{None}
use Rattle.std.specs.Int.{bit_at}
use Rattle.std.proofs.lemmas.List.{get_or_default}
use Rattle.std.proofs.lemmas.Nat.Bits.{bit_at_and, bit_at-lt}
use Rattle.flow_nodes.specs.Groups.{child_bound}
use Rattle.flow_nodes.specs.Marks.{picked}
use Rattle.flow_nodes.proofs.MarkSteps.{set-bit}
use Rattle.flow_directions.proofs.BoundSums.{group-at, sixteen, known-lane}
use Rattle.flow_directions.proofs.TreeSteps.{bounds-room}
use Rattle.flow_directions.proofs.sums.sum_of_group.Goals as goal

pub sum_lane_by_lane-requires-clause-at : goal.sum_lane_by_lane-requires-clause-at
sum_lane_by_lane-requires-clause-at g c =
    let at = c.requires.at in
    let group = c.args.group in
    let facts = group-at g.V.Vector.list g.V.Vector.CAP g.V.Vector.WIDTH c.args.instance.now at.1 at.2 c.args.pack.now
    c.args.opened.now.left group (take (group * 16 + 16 - group * 16) (drop (group * 16) c.deref.result.now))
    c.index.result.now c.as_slice-times.result.now at.5 at.3.has_left c.requires.within
    (sixteen c.deref.result.now c.args.pack.now.names.items (group * 16) c.deref.ensures.value) c.index.ensures
    c.as_slice-times.ensures.value in
    (at.1, at.2, at.3.is_node, facts.0, facts.1)

pub returns-then-below-marked-clause-sum : goal.returns-then-below-marked-clause-sum
returns-then-below-marked-clause-sum g c threshold first last is is_pack =
    let shop = c.args.instance.now in
    let end = c.args.end in
    let group = c.args.group in
    let pack = c.args.pack.now in
    let opened = c.args.opened.now in
    let names : List ℕ = take 16 (drop (group * 16) pack.names.items) in
    let facts = group-at g.V.Vector.list g.V.Vector.CAP g.V.Vector.WIDTH shop first last pack opened.left group names
    c.index.result.now c.as_slice-times.result.now is_pack is.has_left c.requires.within refl c.index.ensures
    c.as_slice-times.ensures.value in
    let room : group < length c.at.result.now.bounds.items = omega (
      arith,
      c.requires.within,
      bounds-room shop (length pack.groups.items) end opened c.requires.room,
      ap (λ ch. length ch.bounds.items) c.at.ensures,
    ) in
    c.sum_marked.ensures.sum (child_bound shop end first last) names facts.0.count
    (λ lane low bit.
    let under16 : lane < 16 = omega (arith, low, c.requires.wide) in
    let has = c.known_or_computed-bounds.ensures shop first last names lane is.is_node facts.0 low
    (facts.1 lane under16 bit)
    (λ bounds same. known-lane g.V.Vector.list g.V.Vector.CAP g.V.Vector.WIDTH shop threshold end first last pack opened
    group lane bounds is is_pack c.requires.within under16 bit
    (ap (λ ch. slice_index_or ch.bounds.items group None) (sym c.at.ensures)
    ∙ get_or_default c.at.result.now.bounds.items group None c.index-2.result.now room
    ∙ sym c.index-2.ensures ∙ same)) in
    let both : bit_at c.from-marked.result lane ≡ 1 = ap (λ w. bit_at w lane) c.from-marked.ensures ∙ bit in
    let met = sym (bit_at_and c.below.result c.from-marked.result lane)
    ∙ ap (λ w. bit_at w lane) c.if-below-marked.true in
    let set : bit_at c.below.result lane ≡ 1 = omega (arith, met, both, bit_at-lt c.below.result lane) in
    let under = (c.below.ensures.each lane _ has).0 (set-bit c.below.result lane set) in
    (has, omega (arith, under)))

pub returns-else-below-marked-clause-sum : goal.returns-else-below-marked-clause-sum
returns-else-below-marked-clause-sum g c threshold first last is is_pack =
    let group = c.args.group in
    let part = sixteen c.deref.result.now c.args.pack.now.names.items (group * 16) c.deref.ensures.value in
    let facts = group-at g.V.Vector.list g.V.Vector.CAP g.V.Vector.WIDTH c.args.instance.now first last c.args.pack.now
    c.args.opened.now.left group (take (group * 16 + 16 - group * 16) (drop (group * 16) c.deref.result.now))
    c.index.result.now c.as_slice-times.result.now is_pack is.has_left c.requires.within part c.index.ensures
    c.as_slice-times.ensures.value in
    c.sum_lane_by_lane.ensures.sum first last is.is_node facts.0 facts.1
    ∙ ap (λ l. sum_by (child_bound c.args.instance.now c.args.end first last)
    (picked (slice_index c.args.opened.now.left.words group) 0 l)) part
