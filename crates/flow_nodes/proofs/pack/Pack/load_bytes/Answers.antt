use Rattle.std.proofs.Common.{◌≡◌, ℕ, List, ◌+◌, ◌-◌, ◌*◌, ◌<◌, length, take, drop, ap, sym, ◌∙◌, subst, arith}
use Rattle.std.specs.Vec.{with_items}
use Rattle.std.proofs.lemmas.List.{length-set, with_items_is}
use Rattle.flow_nodes.specs.Groups.{IsGroup}
use Rattle.flow_nodes.specs.Packs.{HasByteRoom}
use Rattle.flow_nodes.proofs.PackSteps.{group-each, groups-more}
use Rattle.flow_nodes.proofs.pack.Pack.load_bytes.Goals as goal

pub loop-group-preserved : goal.loop-group-preserved
loop-group-preserved g c =
    let shop = c.args.instance.now in
    let group = c.loop-group.group in
    let bytes = c.loop-group.self.bytes.items in
    let names = c.loop-group.self.names.items in
    let here = c.loop-group.invariant in
    let vector = with_items c.index_mut.result.now c.turn_bytes.new.group in
    let long : group < length bytes = omega (
      arith,
      c.loop-group-test.true,
      c.min-count.ensures,
      c.len.ensures,
      here.size,
      c.args.self.now.bytes.ok.0,
    ) in
    let wide : length c.turn_bytes.new.group ≡ c.index_mut.result.now.len = omega (
      arith,
      c.turn_bytes.ensures.size,
      c.as_mut_slice.ensures.value,
      c.index_mut.result.now.ok.0,
    ) in
    let is : vector.items ≡ c.turn_bytes.new.group =
    with_items_is c.index_mut.result.now c.turn_bytes.new.group wide in
    let size : group * 16 + 16 - group * 16 ≡ 16 = omega arith in
    let part = ap (λ n. take n (drop (group * 16) c.deref.result.now)) size
    ∙ ap (λ l. take 16 (drop (group * 16) l)) c.deref.ensures.value in
    let whole : HasByteRoom shop c.args.self.now → length c.as_mut_slice.result.now ≡ shop.machines =
    λ fits.
    ap length c.as_mut_slice.ensures.value
    ∙ ap (λ v. length v.items) c.index_mut.ensures.value
    ∙ here.room fits group c.index_mut.result.now long in
    record {
      groups = here.groups;
      names = here.names;
      size = length-set bytes group vector ∙ here.size;
      room = λ fits place none low.
          group-each shop bytes group vector long (λ p v. length v.items ≡ shop.machines)
          (ap length is ∙ c.turn_bytes.ensures.size ∙ whole fits) place none
          (λ apart. here.room fits place none (omega (arith, low, length-set bytes group vector)));
      done = λ fits. groups-more shop bytes group vector long (λ (lanes : List ℕ). lanes) 255 16 names
          (here.done fits)
          (subst (IsGroup (λ (lanes : List ℕ). lanes) 255 16 shop (take 16 (drop (group * 16) names))) (sym is)
          (subst (λ l. IsGroup (λ (lanes : List ℕ). lanes) 255 16 shop l c.turn_bytes.new.group) part
          (c.turn_bytes.ensures.group (whole fits))));
    }
