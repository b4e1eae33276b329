use Rattle.std.proofs.Common.{◌≡◌, ℕ, ◌+◌, ◌-◌, ◌*◌, ◌<◌, slice_index, slice_index_or, ap, sym, ◌∙◌, subst}
use Rattle.std.proofs.Common.{inl, inr, arith}
use Rattle.std.proofs.lemmas.Bool.{cases_lt}
use Rattle.flow_shop.specs.Shop.{time}
use Rattle.flow_nodes.specs.Vectors.{HasLane}
use Rattle.flow_nodes.proofs.group.turn_group.Goals as goal

pub machines-preserved : goal.machines-preserved
machines-preserved g c = record {
  done = λ place lane none low inside within.
      let shop = c.args.instance.now in
      let from : ℕ = c.min-from.result in
      let job : ℕ = slice_index c.args.jobs.now lane in
      elim (cases_lt place from) [
        | inl before ↦
            subst (λ v. HasLane g.V.Vector.CAP g.V.Vector.WIDTH (g.V.Vector.list v) lane (time shop job (place + 1)))
            (sym (c.write_four.ensures.before place none before))
            (c.machines.invariant.done place lane none (omega (arith, before, c.min-from.ensures)) inside within)
        | inr above ↦
            let near : place < from + 4 =
            omega (arith, low, inside, c.min-from.ensures, c.requires.rows.limits.machines) in
            let same : from + (place - from) + 1 ≡ place + 1 = omega (arith, above) in
            let is : slice_index c.turn_sixteen.new.block ((place - from) * 16 + lane) ≡ time shop job (place + 1) =
            c.turn_sixteen.ensures.each (place - from) lane (omega (arith, near, above))
            (omega (arith, within, c.requires.wide)) (omega (arith, above, inside))
            ∙ ap (time shop job) same in
            subst (HasLane g.V.Vector.CAP g.V.Vector.WIDTH
            (g.V.Vector.list (slice_index_or c.write_four.new.group place none)) lane) is
            (c.write_four.ensures.each place lane none above near
            (omega (arith, inside, c.machines.auto.group, c.requires.machines)) within)
      ];
}

pub returns : goal.returns
returns g c = record {
  count = c.requires.jobs ∙ sym c.requires.wide;
  each = λ lane within. c.requires.each lane (omega (arith, within, c.requires.wide));
  machines = omega (arith, c.machines.auto.group, c.requires.machines);
  times = λ machine lane none low high within.
      let shop = c.args.instance.now in
      let next : machine - 1 + 1 ≡ machine = omega (arith, low) in
      subst (λ m. HasLane g.V.Vector.CAP g.V.Vector.WIDTH
      (g.V.Vector.list (slice_index_or c.machines.group (machine - 1) none)) lane
      (time shop (slice_index c.args.jobs.now lane) m)) next
      (c.machines.invariant.done (machine - 1) lane none
      (omega (arith, low, high, c.machines-test.false, c.machines-2.ensures.value, c.from-machines.ensures))
      (omega (arith, low, high)) within);
}
