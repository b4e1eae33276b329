use Rattle.std.proofs.Common.{◌≡◌, ℕ, suc, ◌+◌, ◌-◌, ◌<◌, List, [], ◌∷◌, ◌++◌, length, set, refl, ap, sym, subst, ◌∙◌}
use Rattle.std.proofs.Common.{arith}
use Rattle.std.specs.Vec.{with_item, with_items}
use Rattle.std.proofs.lemmas.List.{length-set, with_items_is}
use Rattle.std.proofs.lemmas.Grind.{get_or_default_zero}
use Rattle.flow_check.specs.internal.Lags.{AreUnknown}
use Rattle.flow_check.specs.internal.Links.{IsNext}
use Rattle.flow_check.specs.internal.Nodes.{IsListNode}
use Rattle.flow_check.specs.internal.Reader.{frame_at}
use Rattle.flow_check.specs.declared.reader.ListFrame.{ListFrame}
use Rattle.flow_check.proofs.Links.{next-some}
use Rattle.flow_check.proofs.Readers.{parts-set, opened}
use Rattle.flow_check.proofs.reader.TreeReader.open.Goals as goal

pub returns : goal.returns
returns c =
    let list : List ℕ = c.requires.at.0 in
    let stands = c.requires.at.1 in
    let child_left : ℕ = c.args.self.now.child_left in
    let frames : List ListFrame = c.args.self.now.frames.items in
    let lower : List ListFrame = c.split_at_mut-lower.result.0.now in
    let upper : List ListFrame = c.split_at_mut-lower.result.1.now in
    let within : child_left < length frames = omega (arith, stands.room, stands.at.is_node.count) in
    let one : suc (child_left - 1) ≡ child_left = omega (arith, c.requires.more) in
    let next : IsNext c.args.text.now.shop.now.jobs list c.args.last c.args.job = subst
    (IsNext c.args.text.now.shop.now.jobs list c.args.last) c.requires.next
    (stands.at.are_links.each c.args.last c.requires.at.2) in
    let some = next-some c.args.text.now.shop.now.jobs list c.args.last c.args.job next c.requires.some in
    let room : c.args.job < length c.args.self.now.links.items = omega (arith, some.2, stands.at.are_links.size) in
    let whole : lower ++ upper ≡ frames = sym c.split_at_mut-lower.ensures.value ∙ c.as_mut_slice.ensures.value in
    let first : frame_at upper 0 ≡ frame_at frames child_left = c.split_at_mut-lower.ensures.by_index.1 0 _
    ∙ ap (λ fs. frame_at fs (child_left + 0)) c.as_mut_slice.ensures.value ∙ ap (frame_at frames) (omega arith) in
    let f : ListFrame = record { node = (frame_at upper 0).node; job = c.args.job; last = c.args.last } in
    let kid : ListFrame = record {
      node = c.become_child.new.self;
      job = (frame_at lower (child_left - 1)).job;
      last =
          (frame_at lower (child_left - 1)).last;
    } in
    let written : set lower (child_left - 1) kid ++ set upper 0 f ≡ set (set frames child_left f) (child_left - 1) kid =
    parts-set lower upper child_left (child_left - 1) f kid c.split_at_mut-lower.ensures.front_len (omega
    (arith, c.requires.more)) ∙ ap (λ fs. set (set fs child_left f) (child_left - 1) kid) whole in
    let size : length (set lower (child_left - 1) kid ++ set upper 0 f) ≡ c.args.self.now.frames.len =
    ap length written ∙ length-set (set frames child_left f) (child_left - 1) kid ∙ length-set frames child_left f
    ∙ sym c.args.self.now.frames.ok.0 in
    opened c.args.text.now.shop.now c.args.last c.args.job c.index.result.now c.args.self.now
    (record {
      links = with_item c.args.self.now.links c.args.last c.index.result.now;
      frames =
          with_items c.args.self.now.frames (set lower (child_left - 1) kid ++ set upper 0 f);
      lags = with_items c.args.self.now.lags c.forget.new.lags;
      child_left = child_left - 1;
    }) f kid
    one refl (c.index.ensures ∙ get_or_default_zero c.args.self.now.links.items c.args.job c.index.result.now room)
    (with_items_is c.args.self.now.frames (set lower (child_left - 1) kid ++ set upper 0 f) size ∙ written) within
    (ap (λ (g : ListFrame). record { node = g.node; job = c.args.job; last = c.args.last }) first)
    (λ list node fresh.
    subst (IsListNode c.args.text.now.shop.now (list ++ c.args.job ∷ []) c.become_child.new.self) (sym one)
    (c.become_child.ensures list child_left (subst (λ (g : ListFrame). IsListNode c.args.text.now.shop.now list g.node
    (suc child_left)) (sym first) node) fresh))
    (subst AreUnknown (sym (with_items_is c.args.self.now.lags c.forget.new.lags (c.forget.ensures.size
    ∙ c.as_mut_slice-2.ensures.len))) c.forget.ensures.none)
