use Rattle.std.proofs.Common.{◌≡◌, ◌≢◌, ◌↔◌, ◌/◌, ◌%◌, ◌<◌, length, slice_index, slice_index_or, refl, ap, sym, ◌∙◌}
use Rattle.std.proofs.Common.{subst, arith, inl, inr}
use Rattle.std.proofs.lemmas.Bool.{cases_lt}
use Rattle.std.proofs.lemmas.List.{get_or_default, length-set}
use Rattle.flow_nodes.specs.Groups.{IsGroup, child_bound}
use Rattle.flow_nodes.specs.Marks.{mark}
use Rattle.flow_nodes.proofs.MarkSteps.{mark-elsewhere}
use Rattle.flow_nodes.proofs.BelowSteps.{written-within, written-exact, none-left, none-written, lane-tells}
use Rattle.flow_nodes.proofs.few_groups.mark_few.Goals as goal
use Rattle.flow_nodes.proofs.few_groups.mark_few.Goals.{then-word-ne0, else-word-ne0}

pub loop-group-preserved : goal.loop-group-preserved
loop-group-preserved g c =
    let group = c.loop-group.group in
    let words = c.loop-group.below.words in
    let left = c.args.left.now.words in
    let few : group < length words = omega (
      arith,
      c.loop-group.invariant.size,
      c.loop-group-test.true,
      c.requires.few,
    ) in
    record {
      size = elim c.if-word-ne0.branch [
        | then-word-ne0 w ↦ ap (λ m. length m.words) w.below-is ∙ length-set words group _ ∙ c.loop-group.invariant.size
        | else-word-ne0 w ↦ ap (λ m. length m.words) w.below-is ∙ length-set words group _ ∙ c.loop-group.invariant.size
      ];
      within = λ place under marked. elim (cases_lt (place / 16) group) [
        | inl before ↦
            let apart : place / 16 ≢ group = omega (arith, before) in
            c.loop-group.invariant.within place before (elim c.if-word-ne0.branch [
              | then-word-ne0 w ↦
                  sym (ap (λ m. mark m.words place) w.below-is ∙ mark-elsewhere words group _ place apart) ∙ marked
              | else-word-ne0 w ↦
                  sym (ap (λ m. mark m.words place) w.below-is ∙ mark-elsewhere words group _ place apart) ∙ marked
            ])
        | inr above ↦
            let there : place / 16 ≡ group = omega (arith, above, under) in
            elim c.if-word-ne0.branch [
              | then-word-ne0 w ↦
                  written-within left words group w.small_below-bits.result w.from.result place few
                  w.from.ensures there (sym (ap (λ m. mark m.words place) w.below-is) ∙ marked)
              | else-word-ne0 w ↦
                  absurd (omega (
                    arith,
                    ap (λ m. mark m.words place) w.below-is,
                    none-written left words group _ place few refl w.if-word-ne0.false there,
                    marked,
                  ))
            ]
      ];
      exact = λ shop threshold first last jobs place none limit is under are was fresh.
          let bound = child_bound shop c.args.end first last (slice_index jobs (place % 16)) in
          elim (cases_lt (place / 16) group) [
            | inl before ↦
                let apart : place / 16 ≢ group = omega (arith, before) in
                let says =
                c.loop-group.invariant.exact shop threshold first last jobs place none limit is before are was
                fresh in
                elim c.if-word-ne0.branch [
                  | then-word-ne0 w ↦
                      subst (λ m. mark m.words place ≡ 1 ↔ (bound < threshold)) (sym w.below-is)
                      (subst (λ n. n ≡ 1 ↔ (bound < threshold)) (sym (mark-elsewhere words group _ place apart)) says)
                  | else-word-ne0 w ↦
                      subst (λ m. mark m.words place ≡ 1 ↔ (bound < threshold)) (sym w.below-is)
                      (subst (λ n. n ≡ 1 ↔ (bound < threshold)) (sym (mark-elsewhere words group _ place apart)) says)
                ]
            | inr above ↦
                let there : place / 16 ≡ group = omega (arith, above, under) in
                elim c.if-word-ne0.branch [
                  | then-word-ne0 w ↦
                      let of_group : IsGroup g.V.Vector.list g.V.Vector.CAP g.V.Vector.WIDTH shop jobs
                      w.as_slice.result.now =
                      subst (IsGroup g.V.Vector.list g.V.Vector.CAP g.V.Vector.WIDTH shop jobs)
                      (sym (w.as_slice.ensures.value ∙ ap (λ v. v.items) (w.index-groups-group.is
                      ∙ get_or_default c.args.groups.now group w.index-groups-group.result none
                      c.loop-group-test.true)))
                      (subst (λ i. IsGroup g.V.Vector.list g.V.Vector.CAP g.V.Vector.WIDTH shop jobs
                      (slice_index_or c.args.groups.now i none).items) there are) in
                      subst (λ m. mark m.words place ≡ 1 ↔ (bound < threshold)) (sym w.below-is)
                      (written-exact left words group w.small_below-bits.result w.from.result place few
                      w.from.ensures there bound threshold was
                      (lane-tells g.V.Vector.list g.V.Vector.CAP g.V.Vector.WIDTH c.requires.wide shop threshold c.args.limit
                      c.args.end first last c.args.node.now jobs w.as_slice.result.now w.small_below-bits.result
                      (place % 16) is of_group limit (omega arith) fresh
                      (w.small_below-bits.ensures.each shop first last jobs (place % 16) is of_group
                      (omega (arith, c.requires.wide)) fresh)))
                  | else-word-ne0 w ↦
                      absurd (omega (arith, none-left left words group _ place few refl w.if-word-ne0.false there, was))
                ]
          ];
    }
