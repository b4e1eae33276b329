use Rattle.std.proofs.Common.{◌≡◌, ◌≢◌, ◌⊎◌, ℕ, List, ◌/◌, ◌%◌, ◌<◌, ◌≤◌, length, slice_index, slice_index_or, refl, ap, sym, ◌∙◌}
use Rattle.std.proofs.Common.{bit_and, subst, arith, inl, inr}
use Rattle.std.proofs.lemmas.Bool.{cases_lt}
use Rattle.std.proofs.lemmas.List.{get_or_default, length-set}
use Rattle.std.proofs.lemmas.Nat.{le_or_l, le_or_r}
use Rattle.flow_nodes.specs.Groups.{IsGroup, child_bound}
use Rattle.flow_nodes.specs.Marks.{mark}
use Rattle.flow_nodes.proofs.MarkSteps.{mark-elsewhere}
use Rattle.flow_nodes.proofs.BelowSteps.{written-within, none-left, none-written}
use Rattle.flow_nodes.proofs.ByteSteps.{kept-or-high, kept-none}
use Rattle.flow_nodes.proofs.opener.Opener.mark_open.Goals as goal
use Rattle.flow_nodes.proofs.opener.Opener.mark_open.Goals.{then-word-ne0, else-word-ne0}

pub loop-group-preserved : goal.loop-group-preserved
loop-group-preserved g c =
    let group = c.loop-group.group in
    let words = c.loop-group.kept.words in
    let left = c.args.left.now.words in
    let here = c.loop-group.invariant in
    let few : group < length words = omega (arith, here.size, c.loop-group-test.true, c.requires.few) in
    record {
      size = elim c.if-word-ne0.branch [
        | then-word-ne0 w ↦ ap (λ m. length m.words) w.kept-is ∙ length-set words group _ ∙ here.size
        | else-word-ne0 w ↦ ap (λ m. length m.words) w.kept-is ∙ length-set words group _ ∙ here.size
      ];
      within = λ place under marked. elim (cases_lt (place / 16) group) [
        | inl before ↦
            let apart : place / 16 ≢ group = omega (arith, before) in
            here.within place before (elim c.if-word-ne0.branch [
              | then-word-ne0 w ↦
                  sym (ap (λ m. mark m.words place) w.kept-is ∙ mark-elsewhere words group _ place apart) ∙ marked
              | else-word-ne0 w ↦
                  sym (ap (λ m. mark m.words place) w.kept-is ∙ mark-elsewhere words group _ place apart) ∙ marked
            ])
        | inr above ↦
            let there : place / 16 ≡ group = omega (arith, above, under) in
            elim c.if-word-ne0.branch [
              | then-word-ne0 w ↦
                  written-within left words group w.open_lanes-bits.result w.from.result place few
                  w.from.ensures there (sym (ap (λ m. mark m.words place) w.kept-is) ∙ marked)
              | else-word-ne0 w ↦
                  absurd (omega (
                    arith,
                    ap (λ m. mark m.words place) w.kept-is,
                    none-written left words group _ place few refl w.if-word-ne0.false there,
                    marked,
                  ))
            ]
      ];
      rest = λ shop threshold first last jobs node place none limit is gaps slacks under are was fresh.
          let bound : ℕ = child_bound shop c.args.end first last (slice_index jobs (place % 16)) in
          elim (cases_lt (place / 16) group) [
            | inl before ↦
                let apart : place / 16 ≢ group = omega (arith, before) in
                let says =
                here.rest shop threshold first last jobs node place none limit is gaps slacks before are was fresh in
                elim c.if-word-ne0.branch [
                  | then-word-ne0 w ↦
                      subst (λ m. (mark m.words place ≡ 1) ⊎ (threshold ≤ bound)) (sym w.kept-is)
                      (subst (λ n. (n ≡ 1) ⊎ (threshold ≤ bound)) (sym (mark-elsewhere words group _ place apart)) says)
                  | else-word-ne0 w ↦
                      subst (λ m. (mark m.words place ≡ 1) ⊎ (threshold ≤ bound)) (sym w.kept-is)
                      (subst (λ n. (n ≡ 1) ⊎ (threshold ≤ bound)) (sym (mark-elsewhere words group _ place apart)) says)
                ]
            | inr above ↦
                let there : place / 16 ≡ group = omega (arith, above, under) in
                elim c.if-word-ne0.branch [
                  | then-word-ne0 w ↦
                      let of_group : IsGroup (λ (lanes : List ℕ). lanes) 255 16 shop jobs w.as_slice.result.now =
                      subst (IsGroup (λ (lanes : List ℕ). lanes) 255 16 shop jobs)
                      (sym (w.as_slice.ensures.value ∙ ap (λ v. v.items) (w.index-groups-group.is
                      ∙ get_or_default c.args.groups.now group w.index-groups-group.result none
                      c.loop-group-test.true)))
                      (subst (λ i. IsGroup (λ (lanes : List ℕ). lanes) 255 16 shop jobs
                      (slice_index_or c.args.groups.now i none).items) there are) in
                      subst (λ m. (mark m.words place ≡ 1) ⊎ (threshold ≤ bound)) (sym w.kept-is)
                      (kept-or-high left words group w.open_lanes-bits.result w.from.result place few
                      w.from.ensures there shop threshold c.args.self.now.limit c.args.end first last node
                      (slice_index jobs (place % 16)) is (of_group.each (place % 16) (omega arith)) limit fresh was
                      (w.open_lanes-bits.ensures shop first last jobs node (place % 16) is gaps slacks of_group
                      (omega arith) fresh))
                  | else-word-ne0 w ↦
                      absurd (omega (arith, none-left left words group _ place few refl w.if-word-ne0.false there, was))
                ]
          ];
      none = λ empty place under. elim (cases_lt (place / 16) group) [
        | inl before ↦
            let apart : place / 16 ≢ group = omega (arith, before) in
            elim c.if-word-ne0.branch [
              | then-word-ne0 w ↦
                  ap (λ m. mark m.words place) w.kept-is ∙ mark-elsewhere words group _ place apart
                  ∙ here.none (omega (
                    arith,
                    le_or_l c.loop-group.union (bit_and w.open_lanes-bits.result w.from.result),
                    w.union-is,
                    empty,
                  )) place before
              | else-word-ne0 w ↦
                  ap (λ m. mark m.words place) w.kept-is ∙ mark-elsewhere words group _ place apart
                  ∙ here.none (omega (arith, w.union-is, empty)) place before
            ]
        | inr above ↦
            let there : place / 16 ≡ group = omega (arith, above, under) in
            elim c.if-word-ne0.branch [
              | then-word-ne0 w ↦
                  ap (λ m. mark m.words place) w.kept-is
                  ∙ kept-none words group (bit_and w.open_lanes-bits.result w.from.result) place few there
                  (omega (
                    arith,
                    le_or_r c.loop-group.union (bit_and w.open_lanes-bits.result w.from.result),
                    w.union-is,
                    empty,
                  ))
              | else-word-ne0 w ↦
                  ap (λ m. mark m.words place) w.kept-is
                  ∙ none-written left words group _ place few refl w.if-word-ne0.false there
            ]
      ];
    }

pub returns-clause-rest : goal.returns-clause-rest
returns-clause-rest g c shop threshold first last jobs node place none limit is gaps slacks under are was fresh =
    c.loop-group.invariant.rest shop threshold first last jobs node place none limit is gaps slacks
    (omega (arith, under, c.loop-group-test.false)) are was fresh
