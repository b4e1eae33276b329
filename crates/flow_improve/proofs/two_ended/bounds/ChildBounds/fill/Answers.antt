use Rattle.std.proofs.Common.{◌≡◌, ◌≢◌, ◌-◌, ◌/◌, ◌≤◌, false, length, slice_index, slice_index_or, take, drop}
use Rattle.std.proofs.Common.{ap, sym, ◌∙◌, subst, inl, inr, arith}
use Rattle.std.proofs.lemmas.Bool.{cases_lt, false≢true}
use Rattle.std.proofs.lemmas.List.{length-take, length-drop}
use Rattle.flow_shop.specs.declared.end.End.TheVariants.{Front, Back}
use Rattle.flow_nodes.specs.Vectors.{capped}
use Rattle.flow_nodes.specs.Groups.{IsGroup, child_bound}
use Rattle.flow_improve.specs.internal.Beams.{job_at}
use Rattle.flow_improve.proofs.BoundSteps.{lane-written, left-at}
use Rattle.flow_improve.proofs.two_ended.bounds.ChildBounds.fill.Goals as goal
use Rattle.flow_improve.proofs.two_ended.bounds.ChildBounds.fill.Goals.{then-used-group, else-used-group}

pub child_bounds-fronts-requires : goal.child_bounds-fronts-requires
child_bounds-fronts-requires g c =
    let named = c.requires.groups.each c.loop-group.group c.index-groups-group.result c.loop-group-test.true in
    omega (
      arith,
      ap length c.as_slice-times.ensures.value,
      ap (λ v. length v.items) c.index-groups-group.is,
      named.2.machines,
      c.requires.entry.node.limits.machines,
    )

pub child_bounds-backs-requires : goal.child_bounds-backs-requires
child_bounds-backs-requires g c =
    let named = c.requires.groups.each c.loop-group.group c.index-groups-group.result c.loop-group-test.true in
    omega (
      arith,
      ap length c.as_slice-times.ensures.value,
      ap (λ v. length v.items) c.index-groups-group.is,
      named.2.machines,
      c.requires.entry.node.limits.machines,
    )

pub loop-group-preserved : goal.loop-group-preserved
loop-group-preserved g c =
    let shop = c.args.instance.now in
    let entry = c.args.entry.now in
    let group = c.loop-group.group in
    record {
      cap = elim c.if-used-group.branch [
        | then-used-group w ↦ ap (λ b. b.cap) w.self-is ∙ c.loop-group.invariant.cap
        | else-used-group w ↦ ap (λ b. b.cap) w.self-is ∙ c.loop-group.invariant.cap
      ];
      done = λ place from low under.
          let job = job_at entry place in
          elim c.if-used-group.branch [
            | then-used-group w ↦
                let cap : c.loop-group.self.cap ≡ c.if-used-group.self.cap = sym (ap (λ b. b.cap) w.self-is) in
                elim (cases_lt ((job - 1) / 16) group) [
                  | inl before ↦
                      let apart : (job - 1) / 16 ≢ group = omega (arith, before) in
                      let old = c.loop-group.invariant.done place from low before in (
                        λ first last node fresh.
                            ap (λ b. slice_index b.front (job - 1)) w.self-is
                            ∙ w.write_lanes.ensures.others (job - 1) apart
                            ∙ old.0 first last node fresh
                            ∙ ap (λ n. capped n (child_bound shop Front first last job)) cap,
                        λ first last node fresh.
                            ap (λ b. slice_index b.back (job - 1)) w.self-is
                            ∙ w.write_lanes-then-used-group.ensures.others (job - 1) apart
                            ∙ old.1 first last node fresh
                            ∙ ap (λ n. capped n (child_bound shop Back first last job)) cap,
                      )
                  | inr above ↦
                      let there : (job - 1) / 16 ≡ group = omega (arith, above, under) in
                      let named = c.requires.groups.each group w.index-groups-group.result c.loop-group-test.true in
                      let vectors = w.as_slice-times.ensures.value ∙ ap (λ v. v.items) w.index-groups-group.is in
                      let of_group : IsGroup g.V.Vector.list g.V.Vector.CAP g.V.Vector.WIDTH shop named.0
                      w.as_slice-times.result.now =
                      subst (IsGroup g.V.Vector.list g.V.Vector.CAP g.V.Vector.WIDTH shop named.0) (sym vectors) named.2 in
                      let full : g.V.Vector.CAP ≡ c.if-used-group.self.cap =
                      sym c.requires.cap ∙ sym c.loop-group.invariant.cap ∙ cap in (
                        λ first last node fresh.
                            ap (λ b. slice_index b.front (job - 1)) w.self-is
                            ∙ lane-written g.V.Vector.list g.V.Vector.CAP g.V.Vector.WIDTH shop entry Front group named.0
                            w.as_slice-times.result.now w.child_bounds-fronts.result w.write_lanes.new.numbers place
                            c.requires.wide c.requires.entry from low there named.1 of_group
                            w.child_bounds-fronts.ensures w.write_lanes.ensures.here first last node fresh
                            ∙ ap (λ n. capped n (child_bound shop Front first last job)) full,
                        λ first last node fresh.
                            ap (λ b. slice_index b.back (job - 1)) w.self-is
                            ∙ lane-written g.V.Vector.list g.V.Vector.CAP g.V.Vector.WIDTH shop entry Back group named.0
                            w.as_slice-times.result.now w.child_bounds-backs.result
                            w.write_lanes-then-used-group.new.numbers place c.requires.wide c.requires.entry from low
                            there named.1 of_group w.child_bounds-backs.ensures
                            w.write_lanes-then-used-group.ensures.here first last node fresh
                            ∙ ap (λ n. capped n (child_bound shop Back first last job)) full,
                      )
                ]
            | else-used-group w ↦
                elim (cases_lt ((job - 1) / 16) group) [
                  | inl before ↦
                      let old = c.loop-group.invariant.done place from low before in (
                        λ first last node fresh.
                            ap (λ b. slice_index b.front (job - 1)) w.self-is ∙ old.0 first last node fresh
                            ∙ ap (λ b. capped b.cap (child_bound shop Front first last job)) (sym w.self-is),
                        λ first last node fresh.
                            ap (λ b. slice_index b.back (job - 1)) w.self-is ∙ old.1 first last node fresh
                            ∙ ap (λ b. capped b.cap (child_bound shop Back first last job)) (sym w.self-is),
                      )
                  | inr above ↦
                      let there : (job - 1) / 16 ≡ group = omega (arith, above, under) in
                      let jobs = c.deref.result.now in
                      let within : entry.before ≤ length jobs = omega (
                        arith,
                        ap length c.deref.ensures.value,
                        c.requires.entry.within,
                        c.requires.entry.jobs.whole,
                      ) in
                      let read : slice_index (take (entry.before - entry.first) (drop entry.first jobs))
                      (place - entry.first) ≡ job =
                      left-at jobs entry.first place entry.before from low within
                      ∙ ap (λ l. slice_index l place) c.deref.ensures.value in
                      let used = c.groups_of-used.ensures.each (place - entry.first) (omega (
                        arith,
                        length-take (entry.before - entry.first) (drop entry.first jobs),
                        length-drop entry.first jobs,
                        within,
                        from,
                        low,
                      )) in
                      absurd (false≢true (sym w.if-used-group.false
                      ∙ ap (λ n. slice_index_or c.groups_of-used.result n false)
                      (sym (ap (λ j. (j - 1) / 16) read ∙ there)) ∙ used))
                ]
          ];
    }
