use Rattle.std.proofs.Common.{◌≡◌, ℕ, ◌+◌, ◌*◌, ◌<◌, ◌≤◌, [], slice_index, sym, subst, ◌∙◌, inl, inr, arith}
use Rattle.std.proofs.lemmas.Bool.{cases_lt}
use Rattle.flow_limits.specs.Limits.{most_machines, greatest_time, greatest_completion}
use Rattle.flow_shop.specs.Shop.{Shop}
use Rattle.flow_shop.specs.Bound.{bound_at, released_bound_at}
use Rattle.flow_shop.proofs.Admissible.{released_bound_is_stronger}
use Rattle.flow_search.specs.declared.few_left.group.TheConstants.{GONE}
use Rattle.flow_search.specs.declared.few_left.group.MachineRow.{MachineRow}
use Rattle.flow_search.specs.internal.Columns.{IsUnprunedCount, child}
use Rattle.flow_search.proofs.ColumnsPassed.{all-same, passed-start, passed-more, behind-small, sum-small}
use Rattle.flow_search.proofs.ColumnsStill.{pruned-sooner, still-none}
use Rattle.flow_search.proofs.ColumnsReleased.{released-is}
use Rattle.flow_search.proofs.few_left.releases.unpruned_by_releases.Goals as goal
use Rattle.flow_search.proofs.few_left.releases.unpruned_by_releases.Goals.{After-where_greater-still}
use Rattle.flow_search.proofs.few_left.releases.unpruned_by_releases.Goals.{After-others-behind}

abbrev none : MachineRow
none = record { time = []; tail = [] }

pub loop-place-init : goal.loop-place-init
loop-place-init c = record {
  unpruned_small = λ column low. omega (arith, all-same 0 column low);
  flags_small = λ column low. elim (cases_lt (slice_index c.args.frame.now.gone column) 1) [
    | inl under ↦ omega (arith, c.where_less-flags.ensures.kept column low under, all-same 1 column low)
    | inr over ↦ omega (arith, c.where_less-flags.ensures.cut column low over)
  ];
  passed = λ list column other tested here there differ.
      passed-start c.args.instance.now released_bound_at (child list c.args.group.now column) c.args.frame.now.value _ _
      (all-same 0 column here.within)
      (c.where_less-flags.ensures.kept column here.within (omega (arith, here.left)) ∙ all-same 1 column here.within);
}

pub releases-requires-clause-opened : goal.releases-requires-clause-opened
releases-requires-clause-opened c = (c.requires.tested.0, c.requires.tested.1.opened)

pub returns-then-are_zeros : goal.returns-then-are_zeros
returns-then-are_zeros c list column other tested here there differ =
    let shop : Shop = c.args.instance.now in
    let place : ℕ = c.loop-place.place in
    let to : place < shop.machines = omega (arith, c.loop-place-test.true, c.machines-place-end.ensures.value) in
    still-none shop bound_at released_bound_at (child list c.args.group.now column) c.args.frame.now.value place
    shop.machines (slice_index c.args.frame.now.unpruned column) (slice_index c.loop-place.unpruned column)
    (slice_index c.loop-place.flags column) (slice_index c.where_greater-still.result column)
    (released_bound_is_stronger shop (child list c.args.group.now column))
    (tested.unpruned column other here there differ)
    (c.loop-place.invariant.passed list column other tested here there differ) to
    (c.where_greater-still.ensures.kept column here.within)
    (c.are_zeros.ensures c.if-are_zeros.true column here.within)

-- a flag is 0 or 1
still-small : (c : After-where_greater-still) (column : ℕ) → column < 8 →
    slice_index c.where_greater-still.result column ≤ 1
still-small c column low = elim (cases_lt c.loop-place.place (slice_index c.args.frame.now.unpruned column)) [
  | inl before ↦ omega (
    arith,
    c.where_greater-still.ensures.kept column low before,
    c.loop-place.invariant.flags_small column low,
  )
  | inr past ↦ omega (arith, c.where_greater-still.ensures.cut column low past)
]

-- the sum of a column, at most
total-small : (c : After-others-behind) (column : ℕ) → column < 8 →
    slice_index c.differences-start.result column + slice_index c.others-behind.result column
    ≤ greatest_completion + most_machines * greatest_time + greatest_time + 2 * GONE
total-small c column low =
    let to : c.loop-place.place < c.args.instance.now.machines = omega
    (arith, c.loop-place-test.true, c.machines-place-end.ensures.value) in
    let behind = behind-small c.args.instance.now c.requires.tested.0 c.args.group.now c.args.frame.now none
    c.loop-place.place column (slice_index c.others-behind.result column) c.greater.result
    c.requires.tested.1.opened.at to
    c.greater.ensures.each (c.others-behind.ensures.each column low) in
    omega (arith, behind, c.releases.ensures.small column low, c.differences-start.ensures.each column low)

pub sums-requires : goal.sums-requires
sums-requires c = record {
  fits = λ column low. omega (arith, total-small (goal.at.sums-requires c).After-others-behind column low);
}

pub sums-unpruned-requires : goal.sums-unpruned-requires
sums-unpruned-requires c = record {
  fits = λ column low.
      let flag : slice_index c.where_less-flags-in-loop-place.result column ≤ 1 = elim
      (cases_lt (slice_index c.sums.result column) c.saturating_sub-room.result) [
        | inl under ↦ omega (
          arith,
          c.where_less-flags-in-loop-place.ensures.kept column low under,
          still-small (goal.at.sums-unpruned-requires c).After-where_greater-still column low,
        )
        | inr over ↦ omega (arith, c.where_less-flags-in-loop-place.ensures.cut column low over)
      ] in
      omega (
        arith,
        flag,
        c.loop-place.invariant.unpruned_small column low,
        c.loop-place-test.true,
        c.machines-place-end.ensures.limits.machines,
        c.machines-place-end.ensures.value,
      );
}

pub loop-place-preserved : goal.loop-place-preserved
loop-place-preserved c =
    let shop : Shop = c.args.instance.now in
    let place : ℕ = c.loop-place.place in
    let to : place < shop.machines = omega (arith, c.loop-place-test.true, c.machines-place-end.ensures.value) in
    let flag : (column : ℕ) → column < 8 → slice_index c.where_less-flags-in-loop-place.result column ≤ 1 =
    λ column low. elim (cases_lt (slice_index c.sums.result column) c.saturating_sub-room.result) [
      | inl under ↦ omega (
        arith,
        c.where_less-flags-in-loop-place.ensures.kept column low under,
        still-small (goal.at.loop-place-preserved c).After-where_greater-still column low,
      )
      | inr over ↦ omega (arith, c.where_less-flags-in-loop-place.ensures.cut column low over)
    ] in
    record {
      unpruned_small = λ column low.
          omega (
            arith,
            c.sums-unpruned.ensures.each column low,
            flag column low,
            c.loop-place.invariant.unpruned_small
                column low,
          );
      flags_small = flag;
      passed = λ list column other tested here there differ.
          let opened = tested.opened in
          let bound = released-is shop list c.args.group.now c.args.frame.now none column other place
          (slice_index c.releases.new.late column) (slice_index c.differences-start.result column)
          (slice_index c.others-behind.result column) c.greater.result opened here there differ to
          (c.releases.ensures.each list column other opened here there differ)
          (c.differences-start.ensures.each column here.within) c.greater.ensures.each
          (c.others-behind.ensures.each column here.within) in
          let whole = c.sums.ensures.each column here.within in
          let load = sum-small shop c.requires.tested.0 c.args.group.now c.args.frame.now place
          c.machines-place-end.ensures.limits c.requires.tested.1.opened.at to in
          let was = c.loop-place.invariant.passed list column other tested here there differ in
          let most = total-small (goal.at.loop-place-preserved c).After-others-behind column here.within in
          passed-more shop released_bound_at (child list c.args.group.now column) c.args.frame.now.value place
          (slice_index c.loop-place.unpruned column) (slice_index c.loop-place.flags column)
          (slice_index c.where_less-flags-in-loop-place.result column) (slice_index c.sums-unpruned.result column)
          was
          (λ under. c.where_less-flags-in-loop-place.ensures.kept column here.within
          (omega (
            arith,
            under,
            bound,
            whole,
            load,
            most,
            c.saturating_sub-room.ensures,
            c.min-limit.ensures,
            c.from.ensures,
          ))
          ∙ elim (cases_lt place (slice_index c.args.frame.now.unpruned column)) [
            | inl before ↦ c.where_greater-still.ensures.kept column here.within before
            | inr past ↦
                let none = pruned-sooner shop bound_at released_bound_at (child list c.args.group.now column)
                c.args.frame.now.value place shop.machines (slice_index c.args.frame.now.unpruned column)
                (slice_index c.loop-place.unpruned column) (slice_index c.loop-place.flags column)
                (released_bound_is_stronger shop (child list c.args.group.now column))
                (tested.unpruned column other here there differ) was to under past in
                c.where_greater-still.ensures.cut column here.within past ∙ sym none
          ])
          (λ over. c.where_less-flags-in-loop-place.ensures.cut column here.within
          (omega (arith, over, bound, whole, c.saturating_sub-room.ensures, c.min-limit.ensures, c.from.ensures)))
          (c.sums-unpruned.ensures.each column here.within);
    }

pub returns : goal.returns
returns c list column other tested here there differ =
    let e : c.loop-place.place ≡ c.args.instance.now.machines = omega
    (arith, c.loop-place-test.false, c.loop-place.auto.place-end, c.machines-place-end.ensures.value) in
    subst (λ m. IsUnprunedCount c.args.instance.now released_bound_at (child list c.args.group.now column)
    c.args.frame.now.value m (slice_index c.loop-place.unpruned column)) e
    (c.loop-place.invariant.passed list column other tested here there differ).is
