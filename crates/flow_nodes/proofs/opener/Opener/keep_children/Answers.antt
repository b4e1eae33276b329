use Rattle.std.proofs.Common.{rules, ◌≡◌, ◌≢◌, ◌↔◌, ℕ, ◌-◌, ◌/◌, ◌%◌, ◌<◌, length, slice_index_or, set, refl, ap, sym}
use Rattle.std.proofs.Common.{◌∙◌, subst, arith, inl, inr}
use Rattle.std.specs.Global.{Vec}
use Rattle.std.specs.Vec.{with_items}
use Rattle.std.specs.Prelude.{Some, None, List, ◌++◌, false}
use Rattle.std.proofs.lemmas.Option.{none-some}
use Rattle.flow_shop.specs.Shop.{Shop}
use Rattle.flow_shop.specs.Sequences.{has}
use Rattle.flow_shop.specs.declared.end.End.{End}
use Rattle.flow_nodes.specs.Nodes.{IsJob, IsNode}
use Rattle.flow_nodes.specs.internal.Pairs.{AreRests}
use Rattle.flow_nodes.specs.declared.node.Node.{Node}
use Rattle.std.proofs.lemmas.Bool.{cases_lt}
use Rattle.std.proofs.lemmas.List.{get_or_default, get_or-set_same, get_or-set_other, length-set, with_items_is}
use Rattle.flow_nodes.specs.Vectors.{HasLane}
use Rattle.flow_nodes.specs.Groups.{child_bound}
use Rattle.flow_nodes.specs.Marks.{mark}
use Rattle.flow_nodes.specs.Open.{HasStartRoom, HasStarts, HasStartsAndBound, start_at}
use Rattle.flow_nodes.proofs.ChildSteps.{greatest-is-bound}
use Rattle.flow_nodes.proofs.MarkSteps.{mark-elsewhere}
use Rattle.flow_nodes.proofs.BelowSteps.{written-within, written-exact, none-left, none-written}
use Rattle.flow_nodes.proofs.OpenSteps.{start-room, job-tells}
use Rattle.flow_nodes.proofs.PairSteps.{constant-is}
use Rattle.flow_nodes.proofs.opener.Opener.keep_children.Goals as goal
use Rattle.flow_nodes.proofs.opener.Opener.keep_children.Goals.{then-word-ne0, else-word-ne0}

pub loop-group-init : goal.loop-group-init
loop-group-init g c = record {
  size = search rules;
  room = λ shop count room. room;
  within = λ place under marked. absurd (omega (arith, under));
  later = λ place high. refl;
  exact = λ shop threshold end first last job node place limit room is rests range fresh under was starts.
      absurd (omega (arith, under));
  bound_count = refl;
  known = λ place old under marked was. absurd (omega (arith, under));
  whole = λ shop end first last job node place none bounds room is rests range fresh under same starts.
      absurd (omega (arith, under));
}

pub index_mut-requires : goal.index_mut-requires
index_mut-requires g c =
    let room = c.loop-group.invariant.room c.requires.room.0 c.args.groups c.requires.room.4 in
    omega (arith, c.count_of-count.ensures, c.loop-group-test.true, room.enough, c.loop-group.children.starts.ok.0)

pub keep_starts-bounds-requires-clause-machines : goal.keep_starts-bounds-requires-clause-machines
keep_starts-bounds-requires-clause-machines g c =
    let parent = c.requires.room.3 in
    omega (
      arith,
      ap length c.as_slice.ensures.value,
      ap (λ v. length v.items) c.index.ensures,
      parent.machines c.loop-group.group c.index.result.now (omega (arith, c.count_of-count.ensures, c.loop-group-test.true, parent.enough)),
      c.requires.room.2,
    )

pub keep_starts-bounds-requires-clause-constant : goal.keep_starts-bounds-requires-clause-constant
keep_starts-bounds-requires-clause-constant g c =
    let parent = c.requires.room.3 in
    constant-is (omega (
      arith,
      ap length c.as_slice.ensures.value,
      ap (λ v. length v.items) c.index.ensures,
      parent.machines c.loop-group.group c.index.result.now (omega (arith, c.count_of-count.ensures, c.loop-group-test.true, parent.enough)),
      c.requires.room.1,
    )) c.requires.constant

pub keep_starts-bounds-requires-clause-kept : goal.keep_starts-bounds-requires-clause-kept
keep_starts-bounds-requires-clause-kept g c =
    let group : ℕ = c.loop-group.group in
    let room = c.loop-group.invariant.room c.requires.room.0 c.args.groups c.requires.room.4 in
    let parent = c.requires.room.3 in
    omega (
      arith,
      ap length c.as_mut_slice-starts.ensures.value,
      ap (λ v. length v.items) c.index_mut.ensures.value,
      room.machines group c.index_mut.result.now (omega (arith, c.count_of-count.ensures, c.loop-group-test.true, room.enough)),
      ap length c.as_slice.ensures.value,
      ap (λ v. length v.items) c.index.ensures,
      parent.machines group c.index.result.now (omega (arith, c.count_of-count.ensures, c.loop-group-test.true, parent.enough)),
    )

pub loop-group-preserved : goal.loop-group-preserved
loop-group-preserved g c =
    let list = g.V.Vector.list in
    let cap = g.V.Vector.CAP in
    let width = g.V.Vector.WIDTH in
    let here = c.loop-group.invariant in
    let group : ℕ = c.loop-group.group in
    let words = c.loop-group.children.below.words in
    let starts = c.loop-group.children.starts.items in
    let old = c.args.parent.now.starts.items in
    let known = c.loop-group.children.bounds.items in
    let old_known = c.args.parent.now.bounds.items in
    let before_all = c.args.children.now.below.words in
    let room = here.room c.requires.room.0 c.args.groups c.requires.room.4 in
    let parent = c.requires.room.3 in
    let few : group < length words = omega (arith, here.size, c.count_of-count.ensures, c.loop-group-test.true, c.requires.few) in
    let long : group < length starts = omega (arith, c.count_of-count.ensures, c.loop-group-test.true, room.enough) in
    let old_long : group < length old = omega (arith, c.count_of-count.ensures, c.loop-group-test.true, parent.enough) in
    let known_long : group < length known = omega (
      arith,
      c.count_of-count.ensures,
      c.loop-group-test.true,
      here.bound_count,
      c.requires.bounds.1,
    ) in
    let old_known_long : group < length old_known =
    omega (arith, c.count_of-count.ensures, c.loop-group-test.true, c.requires.bounds.0) in
    let still : (place : ℕ) → place / 16 ≡ group → mark words place ≡ mark before_all place =
    λ place there. here.later place (omega (arith, there)) in
    elim c.if-word-ne0.branch [
      | then-word-ne0 w ↦
          let kept = w.keep_starts-bounds.new.kept in
          let vector = with_items w.index_mut.result.now kept in
          let size : length kept ≡ length w.index_mut.result.now.items =
          w.keep_starts-bounds.auto.kept ∙ ap length w.as_mut_slice-starts.ensures.value in
          let is : vector.items ≡ kept =
          with_items_is w.index_mut.result.now kept (omega (arith, size, w.index_mut.result.now.ok.0)) in
          let items_are : (none : Vec g.row.V.Denot) → vector.items ≡ (slice_index_or old group none).items =
          λ none. is ∙ w.keep_starts-bounds.ensures.copied ∙ w.as_slice.ensures.value
          ∙ ap (λ v. v.items) (w.index.ensures ∙ get_or_default old group w.index.result.now none old_long) in
          let words_are = ap (λ m. m.below.words) w.children-is in
          let starts_are : c.if-word-ne0.children.starts.items ≡ set starts group vector =
          ap (λ m. m.starts.items) w.children-is in
          let bounds_are : c.if-word-ne0.children.bounds.items ≡ set known group w.where_known.result =
          ap (λ m. m.bounds.items) w.children-is in
          let of_parent : (place : ℕ) → place / 16 ≡ group →
          slice_index_or old_known (place / 16) None ≡ w.index-then-word-ne0.result.now =
          λ place there. ap (λ i. slice_index_or old_known i None) there
          ∙ get_or_default old_known group None w.index-then-word-ne0.result.now old_known_long
          ∙ sym w.index-then-word-ne0.ensures in
          let has_bound : (shop : Shop) (end : End) (first last : List ℕ) (job : ℕ) (node : Node) (place : ℕ) →
          HasStartRoom shop c.args.groups old → IsNode shop first last node →
          AreRests g.V.Vector.pair_of cap shop.machines end node c.args.rest.now → IsJob shop job →
          has (first ++ last) job ≡ false → place / 16 ≡ group →
          ((none : Vec g.row.V.Denot) → HasStarts list cap width shop end first last job (place % 16)
          (slice_index_or old (place / 16) none).items) →
          HasLane cap width (list w.keep_starts-bounds.result) (place % 16) (child_bound shop end first last job) =
          λ shop end first last job node place has_room is_node rests range fresh there starts_are_there.
          let read = w.as_slice.result.now in
          let items : (slice_index_or old (place / 16) w.index.result.now).items ≡ read =
          ap (λ i. (slice_index_or old i w.index.result.now).items) there
          ∙ sym (w.as_slice.ensures.value ∙ ap (λ v. v.items) w.index.ensures) in
          let machines : length read ≡ shop.machines = omega (
            arith,
            ap length w.as_slice.ensures.value,
            ap (λ v. length v.items) w.index.ensures,
            has_room.machines group w.index.result.now old_long,
          ) in
          subst (λ n. HasLane cap width (list w.keep_starts-bounds.result) (place % 16) n)
          (greatest-is-bound shop first last job node is_node range end fresh)
          (w.keep_starts-bounds.ensures.bounds shop end first last job node (place % 16) is_node rests
          machines (omega (arith, c.requires.wide))
          (λ machine none on. subst
          (λ l. HasLane cap width (list (slice_index_or l (machine - 1) none)) (place % 16)
          (start_at shop end first last job machine)) items
          (starts_are_there w.index.result.now machine none on))) in
          record {
            size = ap length words_are ∙ length-set words group _ ∙ here.size;
            room = λ shop count before. subst (HasStartRoom shop count) (sym starts_are)
                (start-room starts group vector long shop count (here.room shop count before)
                (ap length is ∙ size
                ∙ ap (λ v. length v.items) (w.index_mut.ensures.value
                ∙ get_or_default starts group w.index_mut.result.now vector long)));
            within = λ place under marked. elim (cases_lt (place / 16) group) [
              | inl before ↦
                  let apart : place / 16 ≢ group = omega (arith, before) in
                  here.within place before
                  (sym (ap (λ m. mark m place) words_are ∙ mark-elsewhere words group _ place apart) ∙ marked)
              | inr above ↦
                  let there : place / 16 ≡ group = omega (arith, above, under) in
                  sym (still place there)
                  ∙ written-within words words group w.below.result w.from.result place few w.from.ensures there
                  (sym (ap (λ m. mark m place) words_are) ∙ marked)
            ];
            later = λ place high.
                let apart : place / 16 ≢ group = omega (arith, high) in
                ap (λ m. mark m place) words_are ∙ mark-elsewhere words group _ place apart
                ∙ here.later place (omega (arith, high));
            exact = λ shop threshold end first last job node place limit has_room is_node rests range fresh under
                was starts_are_there.
                let bound = child_bound shop end first last job in
                subst (λ m. mark m place ≡ 1 ↔ (bound < threshold)) (sym words_are) (elim (cases_lt (place / 16) group) [
                  | inl before ↦
                      let apart : place / 16 ≢ group = omega (arith, before) in
                      subst (λ n. n ≡ 1 ↔ (bound < threshold)) (sym (mark-elsewhere words group _ place apart))
                      (here.exact shop threshold end first last job node place limit has_room is_node rests range
                      fresh before was starts_are_there)
                  | inr above ↦
                      let there : place / 16 ≡ group = omega (arith, above, under) in
                      let lane : ℕ = place % 16 in
                      written-exact words words group w.below.result w.from.result place few w.from.ensures there
                      bound threshold (still place there ∙ was)
                      (job-tells shop threshold c.args.self.now.limit end first last node job w.below.result lane is_node
                      range limit fresh (w.below.ensures.each lane bound
                      (has_bound shop end first last job node place has_room is_node rests range fresh there
                      starts_are_there)))
                ]);
            bound_count = ap length bounds_are ∙ length-set known group w.where_known.result ∙ here.bound_count;
            known = λ place before_it under one was.
                let marked = sym (ap (λ m. mark m place) words_are) ∙ one in
                subst (λ l. (bounds : g.row.V.Denot) × (slice_index_or l (place / 16) None ≡ Some bounds))
                (sym bounds_are) (elim (cases_lt (place / 16) group) [
                  | inl before ↦
                      let apart : place / 16 ≢ group = omega (arith, before) in
                      let new = here.known place before_it before (sym (mark-elsewhere words group _ place apart)
                      ∙ marked) was in (
                        new.0,
                        get_or-set_other known group (place / 16) w.where_known.result None apart ∙ new.1,
                      )
                  | inr above ↦
                      let there : place / 16 ≡ group = omega (arith, above, under) in (
                        w.keep_starts-bounds.result,
                        ap (λ i. slice_index_or (set known group w.where_known.result) i None) there
                            ∙ get_or-set_same known group w.where_known.result None known_long
                            ∙ w.where_known.ensures.known before_it (sym (of_parent place there) ∙ was),
                      )
                ]);
            whole = λ shop end first last job node place none bounds has_room is_node rests range fresh under same
                starts_there.
                let read : slice_index_or (set known group w.where_known.result) (place / 16) None ≡ Some bounds =
                ap (λ l. slice_index_or l (place / 16) None) (sym bounds_are) ∙ same in
                subst (λ l. HasStartsAndBound list cap width shop end first last job (place % 16)
                (slice_index_or l (place / 16) none).items bounds) (sym starts_are)
                (elim (cases_lt (place / 16) group) [
                  | inl before ↦
                      let apart : place / 16 ≢ group = omega (arith, before) in
                      subst (λ v. HasStartsAndBound list cap width shop end first last job (place % 16) v.items bounds)
                      (sym (get_or-set_other starts group (place / 16) vector none apart))
                      (here.whole shop end first last job node place none bounds has_room is_node rests range fresh
                      before (sym (get_or-set_other known group (place / 16) w.where_known.result None apart) ∙ read)
                      starts_there)
                  | inr above ↦
                      let there : place / 16 ≡ group = omega (arith, above, under) in
                      let new = w.where_known.ensures.none bounds
                      (sym (get_or-set_same known group w.where_known.result None known_long)
                      ∙ ap (λ i. slice_index_or (set known group w.where_known.result) i None) (sym there) ∙ read) in
                      let parent_starts = starts_there new.1.0 (of_parent place there ∙ new.1.1) in
                      let any : (none_of : Vec g.row.V.Denot) → HasStarts list cap width shop end first last job
                      (place % 16) (slice_index_or old (place / 16) none_of).items =
                      λ none_of. subst (λ v. HasStarts list cap width shop end first last job (place % 16) v.items)
                      (get_or_default old (place / 16) none none_of (omega (arith, there, old_long))) parent_starts in
                      let items : (slice_index_or (set starts group vector) (place / 16) none).items
                      ≡ (slice_index_or old (place / 16) none).items =
                      ap (λ i. (slice_index_or (set starts group vector) i none).items) there
                      ∙ ap (λ v. v.items) (get_or-set_same starts group vector none long)
                      ∙ items_are none
                      ∙ ap (λ i. (slice_index_or old i none).items) (sym there) in
                      record {
                        start = subst (HasStarts list cap width shop end first last job (place % 16)) (sym items)
                            parent_starts;
                        bound = subst (λ v. HasLane cap width (list v) (place % 16)
                            (child_bound shop end first last job)) (sym new.0)
                            (has_bound shop end first last job node place has_room is_node rests range fresh there any);
                      }
                ]);
          }
      | else-word-ne0 w ↦
          let words_are : c.if-word-ne0.children.below.words ≡ set words group 0 =
          ap (λ m. m.below.words) w.children-is in
          let starts_are : c.if-word-ne0.children.starts.items ≡ starts = ap (λ m. m.starts.items) w.children-is in
          let bounds_are : c.if-word-ne0.children.bounds.items ≡ set known group None =
          ap (λ m. m.bounds.items) w.children-is in
          let none_there : (place : ℕ) → place / 16 ≡ group → mark c.if-word-ne0.children.below.words place ≢ 1 =
          λ place there marked. omega (
            arith,
            ap (λ m. mark m place) words_are,
            none-written words words group _ place few refl w.if-word-ne0.false there,
            marked,
          ) in
          record {
            size = ap length words_are ∙ length-set words group 0 ∙ here.size;
            room = λ shop count before. subst (HasStartRoom shop count) (sym starts_are) (here.room shop count before);
            within = λ place under marked. elim (cases_lt (place / 16) group) [
              | inl before ↦
                  let apart : place / 16 ≢ group = omega (arith, before) in
                  here.within place before
                  (sym (ap (λ m. mark m place) words_are ∙ mark-elsewhere words group 0 place apart) ∙ marked)
              | inr above ↦ absurd (none_there place (omega (arith, above, under)) marked)
            ];
            later = λ place high.
                let apart : place / 16 ≢ group = omega (arith, high) in
                ap (λ m. mark m place) words_are ∙ mark-elsewhere words group 0 place apart
                ∙ here.later place (omega (arith, high));
            exact = λ shop threshold end first last job node place limit has_room is_node rests range fresh under
                was starts_are_there.
                let bound = child_bound shop end first last job in
                elim (cases_lt (place / 16) group) [
                  | inl before ↦
                      let apart : place / 16 ≢ group = omega (arith, before) in
                      subst (λ m. mark m place ≡ 1 ↔ (bound < threshold)) (sym words_are)
                      (subst (λ n. n ≡ 1 ↔ (bound < threshold)) (sym (mark-elsewhere words group 0 place apart))
                      (here.exact shop threshold end first last job node place limit has_room is_node rests range
                      fresh before was starts_are_there))
                  | inr above ↦
                      let there : place / 16 ≡ group = omega (arith, above, under) in
                      absurd (omega (
                        arith,
                        none-left words words group _ place few refl w.if-word-ne0.false there,
                        still place there,
                        was,
                      ))
                ];
            bound_count = ap length bounds_are ∙ length-set known group None ∙ here.bound_count;
            known = λ place before_it under one was. elim (cases_lt (place / 16) group) [
              | inl before ↦
                  let apart : place / 16 ≢ group = omega (arith, before) in
                  let new = here.known place before_it before
                  (sym (ap (λ m. mark m place) words_are ∙ mark-elsewhere words group 0 place apart) ∙ one) was in (
                    new.0,
                    ap (λ l. slice_index_or l (place / 16) None) bounds_are
                        ∙ get_or-set_other known group (place / 16) None None apart ∙ new.1,
                  )
              | inr above ↦ absurd (none_there place (omega (arith, above, under)) one)
            ];
            whole = λ shop end first last job node place none bounds has_room is_node rests range fresh under same
                starts_there.
                let read : slice_index_or (set known group None) (place / 16) None ≡ Some bounds =
                ap (λ l. slice_index_or l (place / 16) None) (sym bounds_are) ∙ same in
                elim (cases_lt (place / 16) group) [
                  | inl before ↦
                      let apart : place / 16 ≢ group = omega (arith, before) in
                      subst (λ l. HasStartsAndBound list cap width shop end first last job (place % 16)
                      (slice_index_or l (place / 16) none).items bounds) (sym starts_are)
                      (here.whole shop end first last job node place none bounds has_room is_node rests range fresh
                      before (sym (get_or-set_other known group (place / 16) None None apart) ∙ read) starts_there)
                  | inr above ↦
                      let there : place / 16 ≡ group = omega (arith, above, under) in
                      absurd (none-some bounds (sym (get_or-set_same known group None None known_long)
                      ∙ ap (λ i. slice_index_or (set known group None) i None) (sym there) ∙ read))
                ];
          }
    ]

pub returns-clause-room : goal.returns-clause-room
returns-clause-room g c = c.loop-group.invariant.room

pub returns-clause-within : goal.returns-clause-within
returns-clause-within g c place under =
    c.loop-group.invariant.within place (omega (arith, under, c.count_of-count.ensures, c.loop-group-test.false))

pub returns-clause-exact : goal.returns-clause-exact
returns-clause-exact g c shop threshold end first last job node place limit room is rests range fresh under =
    c.loop-group.invariant.exact shop threshold end first last job node place limit room is rests range fresh
    (omega (arith, under, c.count_of-count.ensures, c.loop-group-test.false))

pub returns-clause-known : goal.returns-clause-known
returns-clause-known g c place old under =
    c.loop-group.invariant.known place old (omega (arith, under, c.count_of-count.ensures, c.loop-group-test.false))

pub returns-clause-whole : goal.returns-clause-whole
returns-clause-whole g c shop end first last job node place none bounds room is rests range fresh under =
    c.loop-group.invariant.whole shop end first last job node place none bounds room is rests range fresh
    (omega (arith, under, c.count_of-count.ensures, c.loop-group-test.false))

pub returns-clause-bound_count : goal.returns-clause-bound_count
returns-clause-bound_count g c = c.loop-group.invariant.bound_count

pub returns-clause-count : goal.returns-clause-count
returns-clause-count g c names long = c.count-kept.ensures names (omega (arith, long, c.count_of-count.ensures))
