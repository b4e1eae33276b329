use Rattle.std.proofs.Common.{◌≡◌, ℕ, ◌<◌, List, [], ◌∷◌, length, slice_index_or, ap, sym, subst, arith, length-append}
use Rattle.std.specs.Global.{Vec}
use Rattle.std.specs.Vec.{with_items}
use Rattle.std.proofs.lemmas.List.{with_items_is}
use Rattle.flow_nodes.specs.Groups.{AreNames, IsGroup}
use Rattle.flow_nodes.proofs.GroupSteps.{groups-push}
use Rattle.flow_nodes.proofs.group.groups.Goals as goal

pub groups-preserved : goal.groups-preserved
groups-preserved g c =
    let shop = c.args.instance.now in
    let groups = c.groups.groups.items in
    let names = c.names_of-names.result in
    let vector = with_items c.in_ok-group.group c.write_group.new.group in
    let size : length c.write_group.new.group ≡ c.in_ok-group.group.len = omega (
      arith,
      c.write_group.ensures.machines,
      c.in_ok-group.ensures.len,
      c.from-machines.ensures,
      c.machines.ensures.value,
      c.in_ok-group.group.ok.0,
    ) in
    let is : vector.items ≡ c.write_group.new.group =
    with_items_is c.in_ok-group.group c.write_group.new.group size in
    let pushed = c.in_ok-push.ensures.items in
    let count : c.len-in-groups.result ≡ length groups =
    omega (arith, c.len-in-groups.ensures, c.groups.groups.ok.0) in
    let named : AreNames shop (length groups) names =
    subst (λ group. AreNames shop group names) count c.names_of-names.ensures.each in
    record {
      few = omega (
        arith,
        ap length pushed,
        length-append groups (vector ∷ []),
        c.groups-test.true,
        c.len.ensures,
        c.groups.groups.ok.0,
      );
      done = subst (λ l. (group : ℕ) (none : Vec g.row.V.Denot) → group < length l → (names : List ℕ)
          × AreNames shop group names × IsGroup g.V.Vector.list g.V.Vector.CAP g.V.Vector.WIDTH shop names
          (slice_index_or l group none).items) (sym pushed)
          (groups-push (λ group items. (names : List ℕ) × AreNames shop group names
          × IsGroup g.V.Vector.list g.V.Vector.CAP g.V.Vector.WIDTH shop names items) groups vector
          c.groups.invariant.done (
            names,
            named,
            subst (IsGroup g.V.Vector.list g.V.Vector.CAP g.V.Vector.WIDTH shop names) (sym is) c.write_group.ensures,
          ));
    }
