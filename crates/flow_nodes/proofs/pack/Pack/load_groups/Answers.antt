use Rattle.std.proofs.Common.{◌≡◌, ◌+◌, ◌-◌, ◌*◌, ◌<◌, length, take, drop, refl, ap, sym, ◌∙◌, subst, arith}
use Rattle.std.specs.Vec.{with_items}
use Rattle.std.proofs.lemmas.List.{length-set, with_items_is}
use Rattle.flow_nodes.specs.Groups.{IsGroup}
use Rattle.flow_nodes.proofs.PackSteps.{room-grouped, groups-more}
use Rattle.flow_nodes.proofs.pack.Pack.load_groups.Goals as goal

pub loop-group-preserved : goal.loop-group-preserved
loop-group-preserved g c =
    let group = c.loop-group.group in
    let groups = c.loop-group.self.groups.items in
    let names = c.loop-group.self.names.items in
    let vector = with_items c.index_mut.result.now c.turn_group.new.group in
    let long : group < length groups = omega (
      arith,
      c.loop-group-test.true,
      c.len-group-end.ensures,
      c.loop-group.invariant.count,
      c.args.self.now.groups.ok.0,
    ) in
    let wide : length c.turn_group.new.group ≡ c.index_mut.result.now.len = omega (
      arith,
      c.turn_group.ensures.machines,
      c.loop-group.invariant.room.machines group c.index_mut.result.now long,
      ap (λ v. length v.items) c.index_mut.ensures.value,
      c.index_mut.result.now.ok.0,
    ) in
    let is : vector.items ≡ c.turn_group.new.group =
    with_items_is c.index_mut.result.now c.turn_group.new.group wide in
    let size : group * 16 + 16 - group * 16 ≡ 16 = omega arith in
    let part = ap (λ n. take n (drop (group * 16) c.deref.result.now)) size
    ∙ ap (λ l. take 16 (drop (group * 16) l)) c.deref.ensures.value in
    record {
      room = room-grouped c.args.instance.now groups group vector long c.loop-group.self _ c.loop-group.invariant.room
          refl refl refl (ap length is ∙ c.turn_group.ensures.machines);
      names = c.loop-group.invariant.names;
      bytes = c.loop-group.invariant.bytes;
      count = length-set groups group vector ∙ c.loop-group.invariant.count;
      done = groups-more c.args.instance.now groups group vector long g.V.Vector.list g.V.Vector.CAP g.V.Vector.WIDTH names
          c.loop-group.invariant.done
          (subst (IsGroup g.V.Vector.list g.V.Vector.CAP g.V.Vector.WIDTH c.args.instance.now
          (take 16 (drop (group * 16) names))) (sym is)
          (subst (λ l. IsGroup g.V.Vector.list g.V.Vector.CAP g.V.Vector.WIDTH c.args.instance.now l
          c.turn_group.new.group) part c.turn_group.ensures));
    }
