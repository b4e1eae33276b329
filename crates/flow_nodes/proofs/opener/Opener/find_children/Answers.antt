use Rattle.std.proofs.Common.{rules, ◌≡◌, ◌≢◌, ◌↔◌, ℕ, ◌/◌, ◌%◌, ◌<◌, List, length}
use Rattle.std.proofs.Common.{slice_index, slice_index_or, set, refl, ap, sym, ◌∙◌, subst, arith, inl, inr}
use Rattle.std.specs.Global.{Vec}
use Rattle.std.specs.Vec.{with_items}
use Rattle.std.specs.Prelude.{Some, None}
use Rattle.std.proofs.lemmas.Bool.{cases_lt}
use Rattle.std.proofs.lemmas.List.{get_or_default, get_or-set_same, get_or-set_other, length-set, with_items_is}
use Rattle.flow_shop.specs.Shop.{Shop}
use Rattle.flow_nodes.specs.Groups.{IsGroup, child_bound}
use Rattle.flow_nodes.specs.Marks.{mark}
use Rattle.flow_nodes.specs.Open.{HasStartRoom, HasStartsAndBound}
use Rattle.flow_nodes.specs.internal.Pairs.{IsPaired}
use Rattle.flow_nodes.specs.declared.node.Node.{Node}
use Rattle.flow_nodes.proofs.MarkSteps.{mark-elsewhere, mark-there}
use Rattle.flow_nodes.proofs.BelowSteps.{word-at, none-left, none-written}
use Rattle.flow_nodes.proofs.OpenSteps.{start-room}
use Rattle.flow_nodes.proofs.PairSteps.{constant-is}
use Rattle.flow_nodes.proofs.opener.Opener.find_children.Goals as goal
use Rattle.flow_nodes.proofs.opener.Opener.find_children.Goals.{then-word-ne0, else-word-ne0}

pub loop-group-init : goal.loop-group-init
loop-group-init g c = record {
  size = search rules;
  room = λ shop count room. room;
  within = λ place under marked. absurd (omega (arith, under));
  exact = λ shop threshold first last jobs node place none limit is spread under are was fresh.
      absurd (omega (arith, under));
  bound_count = refl;
  known = λ place under marked. absurd (omega (arith, under));
  whole = λ shop first last jobs node place none bounds is spread under are was fresh same.
      absurd (omega (arith, under));
}

pub index_mut-requires : goal.index_mut-requires
index_mut-requires g c =
    let room = c.loop-group.invariant.room c.requires.room.0 (length c.args.groups.now) c.requires.room.1 in
    omega (arith, c.count_of-count.ensures, c.loop-group-test.true, room.enough, c.loop-group.children.starts.ok.0)

pub below_at-found-requires-clause-constant : goal.below_at-found-requires-clause-constant
below_at-found-requires-clause-constant g c =
    constant-is (ap length c.as_slice-times.ensures.value ∙ ap (λ v. length v.items) c.index-groups-group.is
    ∙ c.requires.machines c.loop-group.group c.index-groups-group.result
    (omega (arith, c.loop-group-test.true, c.count_of-count.ensures))) c.requires.constant

pub below_at-found-requires-clause-machines : goal.below_at-found-requires-clause-machines
below_at-found-requires-clause-machines g c = omega (
  arith,
  ap length c.as_slice-times.ensures.value,
  ap (λ v. length v.items) c.index-groups-group.is,
  c.requires.machines c.loop-group.group c.index-groups-group.result
      (omega (arith, c.loop-group-test.true, c.count_of-count.ensures)),
  c.requires.most,
)

pub below_at-found-requires-clause-starts : goal.below_at-found-requires-clause-starts
below_at-found-requires-clause-starts g c =
    let group : ℕ = c.loop-group.group in
    let room = c.loop-group.invariant.room c.requires.room.0 (length c.args.groups.now) c.requires.room.1 in
    omega (
      arith,
      ap length c.as_mut_slice-starts.ensures.value,
      ap (λ v. length v.items) c.index_mut.ensures.value,
      room.machines group c.index_mut.result.now (omega (arith, c.count_of-count.ensures, c.loop-group-test.true, room.enough)),
      ap length c.as_slice-times.ensures.value,
      ap (λ v. length v.items) c.index-groups-group.is,
      c.requires.room.2 group c.index-groups-group.result
          (omega (arith, c.loop-group-test.true, c.count_of-count.ensures)),
    )

pub loop-group-preserved : goal.loop-group-preserved
loop-group-preserved g c =
    let list = g.V.Vector.list in
    let cap = g.V.Vector.CAP in
    let width = g.V.Vector.WIDTH in
    let here = c.loop-group.invariant in
    let group : ℕ = c.loop-group.group in
    let words = c.loop-group.children.below.words in
    let starts = c.loop-group.children.starts.items in
    let known = c.loop-group.children.bounds.items in
    let left = c.args.left.now.words in
    let groups = c.args.groups.now in
    let room = here.room c.requires.room.0 (length groups) c.requires.room.1 in
    let few : group < length words = omega (arith, here.size, c.count_of-count.ensures, c.loop-group-test.true, c.requires.few) in
    let long : group < length starts = omega (arith, c.count_of-count.ensures, c.loop-group-test.true, room.enough) in
    let known_long : group < length known = omega (
      arith,
      c.count_of-count.ensures,
      c.loop-group-test.true,
      here.bound_count,
      c.requires.bounds,
    ) in
    elim c.if-word-ne0.branch [
      | then-word-ne0 w ↦
          let written = w.below_at-found.new.starts in
          let vector = with_items w.index_mut.result.now written in
          let size : length written ≡ length w.index_mut.result.now.items =
          w.below_at-found.auto.starts ∙ ap length w.as_mut_slice-starts.ensures.value in
          let is_written : vector.items ≡ written =
          with_items_is w.index_mut.result.now written (omega (arith, size, w.index_mut.result.now.ok.0)) in
          let of_group : (shop : Shop) (jobs : List ℕ) (place : ℕ) (none : Vec g.row.V.Denot) → place / 16 ≡ group →
          IsGroup list cap width shop jobs (slice_index_or groups (place / 16) none).items →
          IsGroup list cap width shop jobs w.as_slice-times.result.now =
          λ shop jobs place none there are.
          subst (IsGroup list cap width shop jobs)
          (sym (w.as_slice-times.ensures.value ∙ ap (λ v. v.items) (w.index-groups-group.is
          ∙ get_or_default groups group w.index-groups-group.result none
          (omega (arith, c.loop-group-test.true, c.count_of-count.ensures)))))
          (subst (λ i. IsGroup list cap width shop jobs (slice_index_or groups i none).items) there are) in
          let machines : length w.as_slice-times.result.now ≡ c.args.self.now.machines =
          ap length w.as_slice-times.ensures.value ∙ ap (λ v. length v.items) w.index-groups-group.is
          ∙ c.requires.machines group w.index-groups-group.result
          (omega (arith, c.loop-group-test.true, c.count_of-count.ensures)) in
          let shared : (node : Node) →
          IsPaired g.V.Vector.pair_of cap c.args.self.now.machines c.args.end node c.args.pairs.now →
          IsPaired g.V.Vector.pair_of cap (length w.as_slice-times.result.now) c.args.end node c.args.pairs.now =
          λ node paired. subst (λ m. IsPaired g.V.Vector.pair_of cap m c.args.end node c.args.pairs.now) (sym machines)
          paired in
          let words_are = ap (λ m. m.below.words) w.children-is in
          let starts_are : c.if-word-ne0.children.starts.items ≡ set starts group vector =
          ap (λ m. m.starts.items) w.children-is in
          let bounds_are : c.if-word-ne0.children.bounds.items ≡ set known group w.below_at-found.result.bounds =
          ap (λ m. m.bounds.items) w.children-is in
          record {
            size = ap length words_are ∙ length-set words group _ ∙ here.size;
            room = λ shop count before. subst (HasStartRoom shop count) (sym starts_are)
                (start-room starts group vector long shop count (here.room shop count before)
                (ap length is_written ∙ size
                ∙ ap (λ v. length v.items) (w.index_mut.ensures.value
                ∙ get_or_default starts group w.index_mut.result.now vector long)));
            within = λ place under marked. elim (cases_lt (place / 16) group) [
              | inl before ↦
                  let apart : place / 16 ≢ group = omega (arith, before) in
                  here.within place before
                  (sym (ap (λ m. mark m place) words_are ∙ mark-elsewhere words group _ place apart) ∙ marked)
              | inr above ↦
                  let there : place / 16 ≡ group = omega (arith, above, under) in
                  word-at left group _ place refl there
                  ∙ w.below_at-found.ensures.within (place % 16)
                  (sym (mark-there words group w.below_at-found.result.below place few there)
                  ∙ sym (ap (λ m. mark m place) words_are) ∙ marked)
            ];
            exact = λ shop threshold first last jobs node place none limit is spread under are was fresh.
                let bound = child_bound shop c.args.end first last (slice_index jobs (place % 16)) in
                subst (λ m. mark m place ≡ 1 ↔ (bound < threshold)) (sym words_are) (elim (cases_lt (place / 16) group) [
                  | inl before ↦
                      let apart : place / 16 ≢ group = omega (arith, before) in
                      subst (λ n. n ≡ 1 ↔ (bound < threshold)) (sym (mark-elsewhere words group _ place apart))
                      (here.exact shop threshold first last jobs node place none limit is spread before are was fresh)
                  | inr above ↦
                      let there : place / 16 ≡ group = omega (arith, above, under) in
                      let lane : ℕ = place % 16 in
                      let these = of_group shop jobs place none there are in
                      subst (λ n. n ≡ 1 ↔ (bound < threshold))
                      (sym (mark-there words group w.below_at-found.result.below place few there))
                      (w.below_at-found.ensures.exact shop threshold first last jobs node lane limit is
                      (shared node spread) these (omega (arith, c.requires.wide))
                      (sym (word-at left group _ place refl there) ∙ was) fresh)
                ]);
            bound_count = ap length bounds_are ∙ length-set known group w.below_at-found.result.bounds
                ∙ here.bound_count;
            known = λ place under one.
                let marked = sym (ap (λ m. mark m place) words_are) ∙ one in
                subst (λ l. (bounds : g.row.V.Denot) × (slice_index_or l (place / 16) None ≡ Some bounds))
                (sym bounds_are) (elim (cases_lt (place / 16) group) [
                  | inl before ↦
                      let apart : place / 16 ≢ group = omega (arith, before) in
                      let was = here.known place before (sym (mark-elsewhere words group _ place apart) ∙ marked) in (
                        was.0,
                        get_or-set_other known group (place / 16) w.below_at-found.result.bounds None apart ∙ was.1,
                      )
                  | inr above ↦
                      let there : place / 16 ≡ group = omega (arith, above, under) in
                      let was = w.below_at-found.ensures.known (place % 16)
                      (sym (mark-there words group w.below_at-found.result.below place few there) ∙ marked) in (
                        was.0,
                        ap (λ i. slice_index_or (set known group w.below_at-found.result.bounds) i None) there
                            ∙ get_or-set_same known group w.below_at-found.result.bounds None known_long ∙ was.1,
                      )
                ]);
            whole = λ shop first last jobs node place none bounds is spread under are was fresh same.
                let job : ℕ = slice_index jobs (place % 16) in
                let read : slice_index_or (set known group w.below_at-found.result.bounds) (place / 16) None
                ≡ Some bounds =
                ap (λ l. slice_index_or l (place / 16) None) (sym bounds_are) ∙ same in
                subst (λ l. HasStartsAndBound list cap width shop c.args.end first last job (place % 16)
                (slice_index_or l (place / 16) none).items bounds) (sym starts_are)
                (elim (cases_lt (place / 16) group) [
                  | inl before ↦
                      let apart : place / 16 ≢ group = omega (arith, before) in
                      subst (λ v. HasStartsAndBound list cap width shop c.args.end first last job (place % 16) v.items
                      bounds) (sym (get_or-set_other starts group (place / 16) vector none apart))
                      (here.whole shop first last jobs node place none bounds is spread before are was fresh
                      (sym (get_or-set_other known group (place / 16) w.below_at-found.result.bounds None apart)
                      ∙ read))
                  | inr above ↦
                      let there : place / 16 ≡ group = omega (arith, above, under) in
                      let items : (slice_index_or (set starts group vector) (place / 16) none).items ≡ written =
                      ap (λ i. (slice_index_or (set starts group vector) i none).items) there
                      ∙ ap (λ v. v.items) (get_or-set_same starts group vector none long) ∙ is_written in
                      subst (λ l. HasStartsAndBound list cap width shop c.args.end first last job (place % 16) l bounds)
                      (sym items)
                      (w.below_at-found.ensures.whole shop first last jobs node (place % 16) bounds is
                      (shared node spread)
                      (of_group shop jobs place none there are) (omega (arith, c.requires.wide)) fresh
                      (sym (get_or-set_same known group w.below_at-found.result.bounds None known_long)
                      ∙ ap (λ i. slice_index_or (set known group w.below_at-found.result.bounds) i None) (sym there)
                      ∙ read))
                ]);
          }
      | else-word-ne0 w ↦
          let words_are : c.if-word-ne0.children.below.words ≡ set words group 0 =
          ap (λ m. m.below.words) w.children-is in
          let starts_are : c.if-word-ne0.children.starts.items ≡ starts = ap (λ m. m.starts.items) w.children-is in
          let bounds_are : c.if-word-ne0.children.bounds.items ≡ known = ap (λ m. m.bounds.items) w.children-is in
          record {
            size = ap length words_are ∙ length-set words group 0 ∙ here.size;
            room = λ shop count before. subst (HasStartRoom shop count) (sym starts_are) (here.room shop count before);
            within = λ place under marked. elim (cases_lt (place / 16) group) [
              | inl before ↦
                  let apart : place / 16 ≢ group = omega (arith, before) in
                  here.within place before
                  (sym (ap (λ m. mark m place) words_are ∙ mark-elsewhere words group 0 place apart) ∙ marked)
              | inr above ↦
                  absurd (omega (
                    arith,
                    ap (λ m. mark m place) words_are,
                    none-written left words group _ place few refl w.if-word-ne0.false (omega (arith, above, under)),
                    marked,
                  ))
            ];
            exact = λ shop threshold first last jobs node place none limit is spread under are was fresh.
                let bound = child_bound shop c.args.end first last (slice_index jobs (place % 16)) in
                elim (cases_lt (place / 16) group) [
                  | inl before ↦
                      let apart : place / 16 ≢ group = omega (arith, before) in
                      subst (λ m. mark m place ≡ 1 ↔ (bound < threshold)) (sym words_are)
                      (subst (λ n. n ≡ 1 ↔ (bound < threshold)) (sym (mark-elsewhere words group 0 place apart))
                      (here.exact shop threshold first last jobs node place none limit is spread before are was fresh))
                  | inr above ↦
                      let there : place / 16 ≡ group = omega (arith, above, under) in
                      absurd (omega (arith, none-left left words group _ place few refl w.if-word-ne0.false there, was))
                ];
            bound_count = ap length bounds_are ∙ here.bound_count;
            known = λ place under one. elim (cases_lt (place / 16) group) [
              | inl before ↦
                  let apart : place / 16 ≢ group = omega (arith, before) in
                  subst (λ l. (bounds : g.row.V.Denot) × (slice_index_or l (place / 16) None ≡ Some bounds))
                  (sym bounds_are) (here.known place before
                  (sym (ap (λ m. mark m place) words_are ∙ mark-elsewhere words group 0 place apart) ∙ one))
              | inr above ↦
                  let there : place / 16 ≡ group = omega (arith, above, under) in
                  absurd (omega (
                    arith,
                    ap (λ m. mark m place) words_are,
                    none-written left words group _ place few refl w.if-word-ne0.false there,
                    one,
                  ))
            ];
            whole = λ shop first last jobs node place none bounds is spread under are was fresh same.
                elim (cases_lt (place / 16) group) [
                  | inl before ↦
                      subst (λ l. HasStartsAndBound list cap width shop c.args.end first last
                      (slice_index jobs (place % 16)) (place % 16) (slice_index_or l (place / 16) none).items bounds)
                      (sym starts_are)
                      (here.whole shop first last jobs node place none bounds is spread before are was fresh
                      (ap (λ l. slice_index_or l (place / 16) None) (sym bounds_are) ∙ same))
                  | inr above ↦
                      let there : place / 16 ≡ group = omega (arith, above, under) in
                      absurd (omega (arith, none-left left words group _ place few refl w.if-word-ne0.false there, was))
                ];
          }
    ]

pub returns-clause-room : goal.returns-clause-room
returns-clause-room g c = c.loop-group.invariant.room

pub returns-clause-within : goal.returns-clause-within
returns-clause-within g c place under =
    c.loop-group.invariant.within place (omega (arith, under, c.count_of-count.ensures, c.loop-group-test.false))

pub returns-clause-exact : goal.returns-clause-exact
returns-clause-exact g c shop threshold first last jobs node place none limit is spread under =
    c.loop-group.invariant.exact shop threshold first last jobs node place none limit is spread
    (omega (arith, under, c.count_of-count.ensures, c.loop-group-test.false))

pub returns-clause-known : goal.returns-clause-known
returns-clause-known g c place under =
    c.loop-group.invariant.known place (omega (arith, under, c.count_of-count.ensures, c.loop-group-test.false))

pub returns-clause-whole : goal.returns-clause-whole
returns-clause-whole g c shop first last jobs node place none bounds is spread under =
    c.loop-group.invariant.whole shop first last jobs node place none bounds is spread
    (omega (arith, under, c.count_of-count.ensures, c.loop-group-test.false))

pub returns-clause-bound_count : goal.returns-clause-bound_count
returns-clause-bound_count g c = c.loop-group.invariant.bound_count

pub returns-clause-count : goal.returns-clause-count
returns-clause-count g c names long = c.count-children.ensures names (omega (arith, long, c.count_of-count.ensures))
